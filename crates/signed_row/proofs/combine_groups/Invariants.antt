use mathlib.Core.Path.{◌≡◌}
use Prim.Native.Nat.{◌+◌, ◌-◌, ◌≤◌}
use lib.ListN.{length}
use Rattle.meter_memory.specs.Pairs.{pair_groups}
use Rattle.meter_runs.specs.Runs.{RunTaken}
use Rattle.signed_group.specs.Group.{combined}
use Rattle.signed_row.proofs.combine_groups.Given as goal

abbrev pub invariant-loop-g : goal.invariant-loop-g
invariant-loop-g l = (l.first ≤ l.g) × (l.g ≤ l.g-end) × (l.g-end ≡ l.first + l.n)
    × (pair_groups (combined l.minus) l.w l.source (l.g-end - l.g) l.g l.row ≡ pair_groups (combined l.minus) l.w l.source l.n l.first l.initial.row)
    × (length l.row ≡ length l.initial.row)
    × RunTaken (combined l.minus) l.w l.source l.row (l.g-end - l.g) l.g
