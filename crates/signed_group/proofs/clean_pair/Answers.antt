use mathlib.Core.Path.{◌≡◌, sym, ap, ◌∙◌}
use mathlib.Core.Bool.{true≢false}
use native.Mathlib.Omega.{arith}
use lib.Bits.{or_add_and, and_le_l, and_le_r}
use Rattle.group_layout.specs.Layout.{layout}
use Rattle.group_block.specs.Block.{all_clean}
use Rattle.signed_block.specs.Signed.{signed}
use Rattle.signed_group.proofs.Laws.{clean_pair, unmerged_valid, unmerged_clean}
use Rattle.signed_group.proofs.clean_pair.Goals as goal

pub returns-then-target-source-ne0 : goal.returns-then-target-source-ne0
returns-then-target-source-ne0 c = λ e. absurd (true≢false (sym e))

pub no_minus_zero-requires : goal.no_minus_zero-requires
no_minus_zero-requires c = unmerged_valid

pub no_minus_zero-requires-then-no_minus_zero : goal.no_minus_zero-requires-then-no_minus_zero
no_minus_zero-requires-then-no_minus_zero c = unmerged_valid

pub returns-then-no_minus_zero : goal.returns-then-no_minus_zero
returns-then-no_minus_zero c = λ h.
    let a = c.args in
    let or = or_add_and a.target.merge a.source.merge in
    let none : a.target.merge ≡ 0 = omega (arith, and_le_r a.target.merge a.source.merge) in
    let none' : a.source.merge ≡ 0 = omega (arith, and_le_l a.target.merge a.source.merge) in
    let first = ap (all_clean signed (layout 3 0)) (sym c.number_of.ensures) ∙ sym c.no_minus_zero.ensures ∙ c.if-no_minus_zero.true in
    let second = ap (all_clean signed (layout 3 0)) (sym c.number_of-then-no_minus_zero.ensures) ∙ sym c.no_minus_zero-then-no_minus_zero.ensures ∙ h in
    clean_pair a.target a.source (unmerged_clean a.target none first) (unmerged_clean a.source none' second)
