use mathlib.Core.Path.{◌≡◌}
use Prim.Native.Nat.{◌+◌, ◌-◌, ◌≤◌}
use Rattle.answer.specs.Order.{earlier}
use Rattle.answer.specs.Refusals.{status}
use Rattle.meter_runs.specs.Runs.{run_status}
use Rattle.signed_group.specs.Group.{combined}
use Rattle.signed_row.proofs.groups_status.Given as goal

abbrev pub invariant-loop-g : goal.invariant-loop-g
invariant-loop-g l = (l.start ≤ l.g) × (l.g ≤ l.g-end) × (l.g-end ≡ l.start + l.n)
    × (earlier (status l.taken) (run_status (combined l.minus) l.w l.source l.row (l.g-end - l.g) l.g) ≡ run_status (combined l.minus) l.w l.source l.row l.n l.start)
