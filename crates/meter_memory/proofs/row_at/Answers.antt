use mathlib.Core.Path.{◌≡◌, ap, ◌∙◌}
use Prim.Native.Nat.{◌+◌, ◌-◌, ◌*◌, ◌≤◌}
use native.Mathlib.Omega.{arith}
use lib.ListN.{length, take, drop}
use Rattle.geometry.specs.Geometry.{stride}
use Rattle.meter_memory.proofs.Lists.{lent, row_length}
use Rattle.meter_memory.proofs.row_at.Goals as goal
use Rattle.meter_memory.proofs.row_at.Goals.{After-stride-stride}

row_end : (c : After-stride-stride) → c.args.r * c.stride-stride.result + c.stride-stride.result ≤ length c.args.memory.now
row_end c = rw c.stride-stride.ensures c.requires.2

pub overflow_mul-start : goal.overflow_mul-start
overflow_mul-start c = omega (arith, row_end c)

pub overflow_add-end : goal.overflow_add-end
overflow_add-end c = omega (arith, row_end c)

pub slice_bounds-result-end : goal.slice_bounds-result-end
slice_bounds-result-end c = omega (arith, row_end c)

pub returns : goal.returns
returns c = let a = c.args in
    let n = c.stride-stride.result in
    let e : take (a.r * n + n - a.r * n) (drop (a.r * n) a.memory.now) ≡ take (stride a.w) (drop (a.r * stride a.w) a.memory.now) =
    rw c.stride-stride.ensures (lent (a.r * stride a.w) (stride a.w) a.memory.now) in record { result_value = e; result_len = ap length e ∙ row_length a.r (stride a.w) a.memory.now c.requires.2 }
