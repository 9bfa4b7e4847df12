use Rattle.meter_union.specs.Runs.{groups_status}
use mathlib.Core.Path.{◌≡◌}
use Prim.Native.Nat.{◌+◌, ◌-◌, ◌≤◌}
use Rattle.answer.specs.Order.{earlier}
use Rattle.answer.specs.Refusals.{status}
use Rattle.meter_union.proofs.groups_status.Given as goal

abbrev pub invariant-loop-g : goal.invariant-loop-g
invariant-loop-g l = (l.first ≤ l.g) × (l.g ≤ l.g-end) × (l.g-end ≡ l.first + l.n) × (earlier (status l.status) (groups_status l.w l.source l.row (l.g-end - l.g) l.g) ≡ groups_status l.w l.source l.row l.n l.first)
