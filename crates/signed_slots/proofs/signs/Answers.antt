use borrow.Author.Rules.{rules}
use Rattle.signed_slots.specs.Slots.{signs}
use Rattle.signed_slots.proofs.signs.Goals as goal

pub returns : goal.returns
unfolding signs
returns c = search rules
