use Prim.Native.Nat.{◌*◌}
use Rattle.meter_memory.proofs.Lists.{lent}
use Rattle.meter_union.proofs.Runs.{united_back}
use Rattle.meter_union.proofs.unite_side.Goals as goal

pub returns : goal.returns
returns c = let u = c.unite in
    let a = c.args in
    let lent_row = lent (8 * a.first) 64 a.row.now in
    let lent-source = lent (8 * a.first) 64 a.source.now in
    let stays = rw (lent_row, lent-source) at u.ensures.value in record { value = stays; row_after = united_back a.w a.first a.row.now a.source.now c.requires.fact_1 c.requires.fact_2 u.result u.new.counts stays (rw (lent_row, lent-source) at u.ensures.counts_after) }
