use native.Mathlib.Nat.{one-mul}
use mathlib.Core.Path.{ap}
use Prim.Native.Nat.{ℕ, ◌*◌, ◌%◌, ◌^◌}
use Rattle.group_block.specs.Block.{cap}
use native.Mathlib.Omega.{arith}
use lib.Pow.{pow_pos, shl_exact}
use Rattle.group_block.proofs.low_word.Goals as goal

pub nonzero_rem-result : goal.nonzero_rem-result
nonzero_rem-result c = rw (shl_exact {a = 1} 1 (8 * c.slots.result) 64 (omega arith) (omega arith)) (omega (arith, pow_pos (8 * c.slots.result)))

pub returns : goal.returns
unfolding cap
returns c = rw (shl_exact {a = 1} 1 (8 * c.slots.result) 64 (omega arith) (omega arith), one-mul)
    (ap (λ (k : ℕ). c.args.word % 2 ^ (8 * k)) c.slots.ensures.value)
