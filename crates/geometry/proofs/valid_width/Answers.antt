use mathlib.Core.Path.{◌≡◌, ◌∙◌}
use mathlib.Core.Bool.{true, false, ◌&&◌, and-eq-true_iff, true≢false}
use borrow.Author.Rules.{rules}
use borrow.Author.Tests.{leb-true, le-leb}
use lib.Dec.{leb}
use Rattle.geometry.specs.Geometry.{largest_width}
use Rattle.geometry.proofs.Widths.{width_out, ones_test}
use Rattle.geometry.proofs.valid_width.Goals as goal

pub returns-then-contains : goal.returns-then-contains
returns-then-contains c =
    let e : (leb 32 c.args.w && leb c.args.w largest_width) ≡ true = search rules in
    let p = (and-eq-true_iff (leb 32 c.args.w) (leb c.args.w largest_width)).0 e in
    c.is_power_of_two.ensures ∙ ones_test c.args.w (leb-true 32 c.args.w p.0) (leb-true c.args.w largest_width p.1)

pub returns-else-contains : goal.returns-else-contains
returns-else-contains c =
    let e : (leb 32 c.args.w && leb c.args.w largest_width) ≡ false = search rules in
    c.if-contains.false ∙ width_out c.args.w (λ l h. absurd (true≢false (rw (le-leb 32 c.args.w l, le-leb c.args.w largest_width h) at e)))
