use mathlib.Core.Path.{◌≡◌}
use Prim.Native.Nat.{◌-◌, ◌*◌, ◌/◌, ◌≤◌}
use lib.ListN.{length}
use Rattle.meter_memory.specs.Pairs.{pair_groups, pair_row}
use Rattle.meter_runs.specs.Runs.{RunTaken}
use Rattle.signed_group.specs.Group.{combined}
use Rattle.signed_row.proofs.combine_row.Given as goal

abbrev pub invariant-loop-e : goal.invariant-loop-e
invariant-loop-e l = (l.e ≤ l.e-end) × (l.e-end ≡ l.w / 64)
    × (pair_groups (combined l.minus) l.w l.source (l.w / 8 - 8 * l.e) (8 * l.e) l.row ≡ pair_row (combined l.minus) l.w l.source l.initial.row)
    × (length l.row ≡ length l.initial.row)
    × RunTaken (combined l.minus) l.w l.source l.row (l.w / 8 - 8 * l.e) (8 * l.e)
