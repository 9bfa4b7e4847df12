use mathlib.Core.Path.{◌≡◌}
use mathlib.Core.List.{List, []}
use Prim.Native.Nat.{ℕ, ◌≤◌}
use lib.ListN.{length, get_or}
use Rattle.group.specs.declared.Group.{Group}
use Rattle.meter_memory.specs.Rows.{map_rows}
use Rattle.meter_memory.proofs.Lists.{rows_from}
use Rattle.meter_memory.proofs.Tried.{kept_stored}
use Rattle.signed_row.specs.Hashes.{stored_by}
use Rattle.signed_update.proofs.update_rows.Given as goal

-- what stands for an element that is not there
abbrev pub none : Group
none = record { counts = []; merge = 0 }

-- a group stored in row r, and the one that was kept for it
abbrev pub storedIn : ℕ → List ℕ → ℕ → Group → List ℕ → List ℕ
storedIn w hashes r x row = stored_by w (get_or hashes r 0) x row

abbrev pub stored : ℕ → List ℕ → List Group → ℕ → List ℕ → List ℕ
stored w hashes groups = kept_stored (storedIn w hashes) groups none

abbrev pub invariant-loop-r : goal.invariant-loop-r
invariant-loop-r l = (l.r ≤ l.d)
    × (rows_from (stored l.w l.hashes l.groups) l.stride l.d l.r l.memory ≡ map_rows (stored l.w l.hashes l.groups) l.stride l.d 0 l.initial.memory)
    × (length l.memory ≡ length l.initial.memory)
