use Rattle.std.proofs.Common.{◌≡◌, ◌<◌, ◌≤◌, length}
use Rattle.signed_side.specs.Side.{HoldSums}
use Rattle.signed_side.proofs.sums_of.Given as goal

abbrev pub invariant-loop-i : goal.invariant-loop-i
invariant-loop-i l = (l.i ≤ 64) × (length l.bytes ≡ 64) × (l.bad < 128 → HoldSums l.minus l.i l.counts l.source l.bytes)
