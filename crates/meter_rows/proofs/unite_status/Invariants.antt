use mathlib.Core.Path.{◌≡◌}
use Prim.Native.Nat.{◌-◌, ◌*◌, ◌≤◌}
use Rattle.geometry.specs.Geometry.{stride}
use Rattle.meter_union.specs.Union.{source_status}
use lib.ListN.{drop}
use Rattle.answer.specs.Order.{earlier, earliest}
use Rattle.answer.specs.Refusals.{status}
use Rattle.meter_memory.specs.Rows.{of_rows}
use Rattle.meter_rows.proofs.unite_status.Given as goal

abbrev pub invariant-loop-r : goal.invariant-loop-r
invariant-loop-r l = (l.r ≤ l.d) × (earlier (status l.status) (earliest (of_rows (source_status l.w l.source) (stride l.w) (l.d - l.r) l.r (drop (l.r * stride l.w) l.memory))) ≡ earliest (of_rows (source_status l.w l.source) (stride l.w) l.d 0 l.memory))
