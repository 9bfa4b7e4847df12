use mathlib.Core.Path.{◌≡◌}
use mathlib.Core.List.{List, []}
use Prim.Native.Nat.{ℕ, ◌/◌, ◌≤◌}
use lib.ListN.{length, get_or}
use Rattle.group.specs.declared.Group.{Group}
use Rattle.meter_memory.specs.Rows.{map_rows, with_group}
use Rattle.meter_memory.proofs.Lists.{rows_from}
use Rattle.meter_memory.proofs.Tried.{kept_stored}
use Rattle.meter_update.proofs.update_rows.Given as goal

-- what stands for an element that is not there
abbrev pub none : Group
none = record { counts = []; merge = 0 }

-- a group stored in row r, and the one that was kept for it
abbrev pub storedIn : ℕ → List ℕ → ℕ → Group → List ℕ → List ℕ
storedIn w slots r x row = with_group w row (get_or slots r 0 / 8) x

abbrev pub stored : ℕ → List ℕ → List Group → ℕ → List ℕ → List ℕ
stored w slots groups = kept_stored (storedIn w slots) groups none

abbrev pub invariant-loop-r : goal.invariant-loop-r
invariant-loop-r l = (l.r ≤ l.d)
    × (rows_from (stored l.w l.slots l.t.groups) l.stride l.d l.r l.memory ≡ map_rows (stored l.w l.slots l.t.groups) l.stride l.d 0 l.initial.memory)
    × (length l.memory ≡ length l.initial.memory)
