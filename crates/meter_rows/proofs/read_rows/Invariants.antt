use mathlib.Core.Path.{◌≡◌}
use Prim.Native.Nat.{◌-◌, ◌*◌, ◌≤◌}
use lib.ListN.{drop}
use Rattle.geometry.specs.Geometry.{stride}
use Rattle.answer.specs.Order.{earlier, earliest}
use Rattle.answer.specs.Refusals.{status}
use Rattle.meter_memory.specs.Rows.{of_rows, least, least_or}
use Rattle.meter_row.specs.Slots.{slot_status, slot_value}
use Rattle.meter_rows.proofs.read_rows.Given as goal

abbrev pub invariant-loop-r : goal.invariant-loop-r
invariant-loop-r l = (1 ≤ l.r) × (l.r ≤ l.d)
    × (earlier (status l.status) (earliest (of_rows (slot_status l.w l.slots) (stride l.w) (l.d - l.r) l.r (drop (l.r * stride l.w) l.memory))) ≡ earliest (of_rows (slot_status l.w l.slots) (stride l.w) l.d 0 l.memory))
    × (least_or l.value (of_rows (slot_value l.w l.slots) (stride l.w) (l.d - l.r) l.r (drop (l.r * stride l.w) l.memory)) ≡ least (of_rows (slot_value l.w l.slots) (stride l.w) l.d 0 l.memory))
