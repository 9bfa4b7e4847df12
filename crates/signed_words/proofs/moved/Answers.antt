use native.Mathlib.Omega.{arith}
use Rattle.signed_words.specs.Words.{room, moved}
use Rattle.signed_words.proofs.moved.Goals as goal

pub overflow_sub-result : goal.overflow_sub-result
unfolding room
overflow_sub-result c = omega (arith, rw c.if-amount.true at c.requires)

pub overflow_add-result : goal.overflow_add-result
unfolding room
overflow_add-result c = let a = c.args in record { fits = omega (arith, rw c.if-amount.false at c.requires) }

pub returns-then-amount : goal.returns-then-amount
unfolding moved
returns-then-amount c = rw c.if-amount.true

pub returns-else-amount : goal.returns-else-amount
unfolding moved
returns-else-amount c = rw c.if-amount.false
