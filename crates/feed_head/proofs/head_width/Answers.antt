use Prim.Native.Nat.{◌/◌, ◌%◌}
use native.Mathlib.Omega.{arith}
use Rattle.feed_head.specs.Head.{head_width}
use Rattle.laws.proofs.Shifts.{one_shl}
use Rattle.feed_head.proofs.head_width.Goals as goal

pub returns : goal.returns
unfolding head_width
returns c = one_shl 64 (c.args.payload / 16 % 32) (omega arith)
