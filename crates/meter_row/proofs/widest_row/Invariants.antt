use mathlib.Core.Path.{◌≡◌}
use Prim.Native.Nat.{◌-◌, ◌/◌, max}
use Rattle.answer.specs.Order.{earlier, earliest}
use Rattle.answer.specs.Refusals.{status}
use Rattle.meter_memory.specs.Rows.{of_groups, largest}
use Rattle.meter_row.specs.Row.{level_status, group_level, widest_status, widest_row}
use Rattle.meter_row.proofs.widest_row.Given as goal

abbrev pub invariant-loop-merge : goal.invariant-loop-merge
invariant-loop-merge l = (earlier (status l.status) (earliest (of_groups (level_status l.w l.row) (l.w / 8 - l.merge-index) l.merge-index)) ≡ widest_status l.w l.row)
    × (max l.value (largest (of_groups (group_level l.w l.row) (l.w / 8 - l.merge-index) l.merge-index)) ≡ widest_row l.w l.row)
