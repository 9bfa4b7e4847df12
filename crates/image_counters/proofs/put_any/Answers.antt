use Prim.Native.Nat.{◌+◌, ◌*◌, ◌≤◌}
use native.Mathlib.Omega.{arith}
use lib.ListN.{length}
use Rattle.group_codes.proofs.Packing.{code_is}
use Rattle.image_counters.proofs.put_any.Goals as goal

pub put_fields-requires : goal.put_fields-requires
put_fields-requires c = let r = c.code_at-c in
    let e = code_is c.args.g.merge r.result r.ensures c.if-c-lt-LAYOUTS.true in
    let k : 17 * r.result + 17 ≤ length c.args.fields.now = omega arith in record { fact_1 = c.requires.fact_1; fact_2 = e.0; fact_3 = (k, rw e.1 at (c.requires.fact_2.1 r.result k)) }
