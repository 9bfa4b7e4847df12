use Rattle.std.proofs.Common.{arith}
use Rattle.signed_side.specs.Side.{times}
use Rattle.signed_side.proofs.times.Goals as goal

pub returns-then-minus : goal.returns-then-minus
unfolding times
returns-then-minus c = rw c.if-minus.true (omega (arith, c.wrapping_sub_u8.ensures))

pub returns-else-minus : goal.returns-else-minus
unfolding times
returns-else-minus c = rw c.if-minus.false
