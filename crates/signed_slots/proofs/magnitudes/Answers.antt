use borrow.Author.Rules.{rules}
use Rattle.signed_slots.specs.Slots.{magnitudes}
use Rattle.signed_slots.proofs.magnitudes.Goals as goal

pub returns : goal.returns
unfolding magnitudes
returns c = search rules
