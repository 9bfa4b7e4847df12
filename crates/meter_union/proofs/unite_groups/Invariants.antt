use mathlib.Core.Path.{◌≡◌}
use Prim.Native.Nat.{◌+◌, ◌-◌, ◌≤◌}
use lib.ListN.{length}
use Rattle.meter_union.specs.Union.{unite_groups}
use Rattle.meter_union.proofs.unite_groups.Given as goal

abbrev pub invariant-loop-g : goal.invariant-loop-g
invariant-loop-g l = (l.first ≤ l.g) × (l.g ≤ l.g-end) × (l.g-end ≡ l.first + l.n) × (unite_groups l.w l.source (l.g-end - l.g) l.g l.row ≡ unite_groups l.w l.source l.n l.first l.initial.row)
    × (length l.row ≡ length l.initial.row)
