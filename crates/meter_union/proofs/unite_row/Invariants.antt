use mathlib.Core.Path.{◌≡◌}
use Prim.Native.Nat.{◌-◌, ◌*◌, ◌/◌, ◌≤◌}
use lib.ListN.{length}
use Rattle.meter_union.specs.Union.{unite_row, unite_groups}
use Rattle.meter_union.proofs.unite_row.Given as goal

abbrev pub invariant-loop-e : goal.invariant-loop-e
invariant-loop-e l = (l.e ≤ l.e-end) × (l.e-end ≡ l.w / 64) × (unite_groups l.w l.source (l.w / 8 - 8 * l.e) (8 * l.e) l.row ≡ unite_row l.w l.source l.initial.row) × (length l.row ≡ length l.initial.row)
