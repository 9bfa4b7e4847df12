use mathlib.Core.Path.{◌≡◌}
use Prim.Native.Nat.{◌-◌, ◌*◌, ◌≤◌, max}
use Rattle.geometry.specs.Geometry.{stride}
use Rattle.meter_row.specs.Row.{row_status, row_level}
use lib.ListN.{drop}
use Rattle.answer.specs.Order.{earlier, earliest}
use Rattle.answer.specs.Refusals.{status}
use Rattle.meter_memory.specs.Rows.{of_rows, largest}
use Rattle.meter_rows.proofs.widest_rows.Given as goal

abbrev pub invariant-loop-r : goal.invariant-loop-r
invariant-loop-r l = (l.r ≤ l.d) × (earlier (status l.status) (earliest (of_rows (row_status l.w) (stride l.w) (l.d - l.r) l.r (drop (l.r * stride l.w) l.memory))) ≡ earliest (of_rows (row_status l.w) (stride l.w) l.d 0 l.memory))
    × (max l.value (largest (of_rows (row_level l.w) (stride l.w) (l.d - l.r) l.r (drop (l.r * stride l.w) l.memory))) ≡ largest (of_rows (row_level l.w) (stride l.w) l.d 0 l.memory))
