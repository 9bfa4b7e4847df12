use borrow.Author.Rules.{rules}
use Rattle.signed_slots.specs.Slots.{folded, spread}
use Rattle.signed_slots.proofs.folded.Goals as goal

pub overflow_mul-result : goal.overflow_mul-result
unfolding spread
overflow_mul-result c = search rules

pub overflow_add-result : goal.overflow_add-result
unfolding folded
overflow_add-result c = search rules

pub returns : goal.returns
unfolding folded
returns c = search rules
