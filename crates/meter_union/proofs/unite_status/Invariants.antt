use mathlib.Core.Path.{◌≡◌}
use Prim.Native.Nat.{◌-◌, ◌*◌, ◌/◌, ◌≤◌}
use Rattle.answer.specs.Order.{earlier}
use Rattle.answer.specs.Refusals.{status}
use Rattle.meter_union.specs.Union.{unite_status}
use Rattle.meter_union.specs.Runs.{groups_status}
use Rattle.meter_union.proofs.unite_status.Given as goal

abbrev pub invariant-loop-e : goal.invariant-loop-e
invariant-loop-e l = (l.from ≤ l.w / 64) × (earlier (status l.status) (groups_status l.w l.source l.row (l.w / 8 - 8 * l.from) (8 * l.from)) ≡ unite_status l.w l.source l.row)

abbrev pub decreases-loop-e : goal.decreases-loop-e
decreases-loop-e l = l.w / 64 - l.from
