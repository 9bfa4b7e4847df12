use Prim.Native.Nat.{◌+◌}
use Rattle.meter_memory.proofs.Lists.{lent}
use Rattle.meter_runs.specs.Runs.{none_merged}
use Rattle.meter_runs.proofs.eight_unmerged.Goals as goal

pub returns : goal.returns
unfolding none_merged
returns c = let a = c.args in
    rw (lent (a.w + a.first) 8 a.row.now, lent (a.w + a.first) 8 a.source.now) at c.none_merged.ensures
