use mathlib.Core.Path.{◌≡◌, sym, ◌∙◌}
use mathlib.Core.Bool.{true}
use borrow.Author.Rules.{rules}
use Rattle.std.specs.Prelude.{IsTrue, ◌↔◌}
use Rattle.std.specs.List.{All}
use Rattle.group.specs.Group.{valid_merge}
use Rattle.image_size.proofs.Laws.{valid_all, valid_none}
use Rattle.image_size.proofs.Plain.{valid_clear}
use Rattle.image_size.proofs.are_valid.Goals as goal

pub returns-then-clear : goal.returns-then-clear
returns-then-clear c = let z = c.clear.ensures c.if-clear.true in
    let ms = c.args.merges.now in
    c.if-clear.true ∙ sym (valid_clear ms 0 z.0 z.1 ∙ valid_none ms 4 c.requires)

pub returns-else-clear : goal.returns-else-clear
returns-else-clear c = let h : IsTrue c.all.result ↔ All (λ m. valid_merge m ≡ true) c.args.merges.now = search rules in
    valid_all c.all.result c.args.merges.now h
