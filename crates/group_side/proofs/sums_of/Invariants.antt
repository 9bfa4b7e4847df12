use Rattle.std.proofs.Common.{◌≡◌, ◌≤◌, ◌&&◌, eqb, ◌++◌, take, drop}
use Rattle.group_side.specs.Side.{fit, wrapped_sums}
use Rattle.group_side.proofs.sums_of.Given as goal

abbrev pub invariant-loop-i : goal.invariant-loop-i
invariant-loop-i l = (l.i-iterator.count ≤ 64)
    × (l.i-iterator.iter.a.rest.now ≡ drop l.i-iterator.count l.counts)
    × (l.i-iterator.iter.b.rest.now ≡ drop l.i-iterator.count l.source)
    × (l.bytes ≡ take l.i-iterator.count (wrapped_sums l.counts l.source) ++ drop l.i-iterator.count l.initial.bytes)
    × ((eqb l.carries 0 && fit (drop l.i-iterator.count l.counts) (drop l.i-iterator.count l.source)) ≡ fit l.counts l.source)
