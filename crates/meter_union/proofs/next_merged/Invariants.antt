use mathlib.Core.Path.{◌≡◌}
use Prim.Native.Nat.{◌-◌, ◌/◌, ◌≤◌}
use Rattle.meter_union.specs.Runs.{next_merged}
use Rattle.meter_union.proofs.next_merged.Given as goal

abbrev pub invariant-loop-e : goal.invariant-loop-e
invariant-loop-e l = (l.e ≤ l.e-end) × (l.e-end ≡ l.w / 64) × (next_merged l.w l.row l.source (l.w / 64 - l.e) l.e ≡ next_merged l.w l.row l.source (l.w / 64 - l.from) l.from)
