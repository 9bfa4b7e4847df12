use Prim.Native.Nat.{◌/◌}
use native.Mathlib.Omega.{arith}
use Rattle.geometry.proofs.Widths.{slot_in, group_in}
use Rattle.signed_row.proofs.read_row.Goals as goal

pub load-requires : goal.load-requires
load-requires c = let a = c.args in
    let p = c.requires in
    let i = group_in a.w (a.slot / 8) p.fact_1 (slot_in a.w a.slot p.fact_1 p.fact_3) in record { fact_1 = i.0; fact_2 = omega arith }

pub returns : goal.returns
returns c = record { value = rw (← c.load.ensures) c.counter.ensures.value; magnitude_bound = c.counter.ensures.magnitude_bound }
