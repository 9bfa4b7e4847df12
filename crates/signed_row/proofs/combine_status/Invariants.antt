use mathlib.Core.Path.{◌≡◌}
use Prim.Native.Nat.{◌-◌, ◌*◌, ◌/◌, ◌≤◌}
use Rattle.answer.specs.Order.{earlier}
use Rattle.answer.specs.Refusals.{status}
use Rattle.meter_memory.specs.Pairs.{pairs_status}
use Rattle.meter_runs.specs.Runs.{run_status}
use Rattle.signed_group.specs.Group.{combined}
use Rattle.signed_row.proofs.combine_status.Given as goal

abbrev pub invariant-loop-e : goal.invariant-loop-e
invariant-loop-e l = (l.e ≤ l.e-end) × (l.e-end ≡ l.w / 64)
    × (earlier (status l.taken) (run_status (combined l.minus) l.w l.source l.row (l.w / 8 - 8 * l.e) (8 * l.e)) ≡ pairs_status (combined l.minus) l.w l.source l.row)
