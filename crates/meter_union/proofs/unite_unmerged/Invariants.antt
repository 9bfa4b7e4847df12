use mathlib.Core.Path.{◌≡◌}
use Prim.Native.Nat.{ℕ, ◌+◌, ◌-◌, ◌≤◌, ◌<◌}
use lib.ListN.{length, get_or}
use Rattle.meter_union.specs.Union.{unite_groups}
use Rattle.meter_union.proofs.unite_unmerged.Given as goal

abbrev pub invariant-loop-g : goal.invariant-loop-g
invariant-loop-g l = (l.first ≤ l.g) × (l.g ≤ l.g-end) × (l.g-end ≡ l.first + 8) × (unite_groups l.w l.source (l.g-end - l.g) l.g l.row ≡ unite_groups l.w l.source 8 l.first l.initial.row)
    × (length l.row ≡ length l.initial.row) × ((k : ℕ) → l.g ≤ k → k < l.g-end → get_or l.row (l.w + k) 0 ≡ 0)
