use Rattle.std.proofs.Common.{◌≡◌, ◌≤◌}
use Rattle.signed_side.specs.Side.{NoMinusZeros}
use Rattle.signed_side.proofs.clean.Given as goal

abbrev pub invariant-loop-i : goal.invariant-loop-i
invariant-loop-i l = (l.i ≤ 64) × (l.bad ≡ 0 → NoMinusZeros l.i l.counts l.source)
