use mathlib.Core.Path.{ap}
use Prim.Native.Nat.{ℕ, ◌%◌, ◌^◌}
use native.Mathlib.Omega.{arith}
use Rattle.laws.proofs.Shifts.{one_shl}
use lib.Bits.{and_mask}
use lib.Pow.{pow_pos}
use Rattle.group_layout.proofs.low.Goals as goal

pub overflow_sub-result : goal.overflow_sub-result
overflow_sub-result c = rw (one_shl 8 c.slots.result (omega arith)) (pow_pos c.slots.result)

pub returns : goal.returns
returns c = rw (one_shl 8 c.slots.result (omega arith), and_mask c.args.merge c.slots.result)
    (ap (λ (k : ℕ). c.args.merge % 2 ^ k) c.slots.ensures.value)
