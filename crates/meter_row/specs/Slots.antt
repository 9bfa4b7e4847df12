-- What an update and an estimate do in the rows of a memory by the slots of the rows. The code's own terms.
use Rattle.std.specs.Prelude.{ℕ, ◌/◌, ◌<◌, ◌≡◌, List, get_or}
use Rattle.group.specs.declared.Group.{Group}
use Rattle.group.specs.Group.{read}
use Rattle.geometry.specs.Geometry.{stride}
use Rattle.meter_memory.specs.Rows.{row_of, map_rows, group_at}
use Rattle.meter_row.specs.Row.{added_in, added_row}

-- a slot for each of d rows
abbrev pub SlotsIn : ℕ → ℕ → List ℕ → Type 0
SlotsIn d w slots = (r : ℕ) → r < d → get_or slots r 0 < w

-- an update of row r by its slot: its status, and the row that it leaves
abbrev pub added_status : ℕ → List ℕ → ℕ → ℕ → List ℕ → ℕ
added_status w slots amount r row = (added_in w row (get_or slots r 0) amount).status

abbrev pub slot_added : ℕ → List ℕ → ℕ → ℕ → List ℕ → List ℕ
slot_added w slots amount r row = added_row w row (get_or slots r 0) amount

-- the value of the counter that an update of row r leaves
abbrev pub added_value : ℕ → List ℕ → ℕ → ℕ → List ℕ → ℕ
added_value w slots amount r row = (read (added_in w row (get_or slots r 0) amount).group (get_or slots r 0)).value

-- the rows that updates of d rows leave, and groups that are those updates', not yet stored
abbrev pub added_rows : ℕ → ℕ → List ℕ → ℕ → List ℕ → List ℕ
added_rows d w slots amount memory = map_rows (slot_added w slots amount) (stride w) d 0 memory

abbrev pub Added : ℕ → ℕ → List ℕ → List ℕ → ℕ → List Group → Type 0
Added d w memory slots amount groups = (z : Group) (r : ℕ) → r < d → get_or groups r z ≡ (added_in w (row_of w memory r) (get_or slots r 0) amount).group

-- what is read of row r by its slot
abbrev pub slot_status : ℕ → List ℕ → ℕ → List ℕ → ℕ
slot_status w slots r row = (read (group_at w row (get_or slots r 0 / 8)) (get_or slots r 0)).status

abbrev pub slot_value : ℕ → List ℕ → ℕ → List ℕ → ℕ
slot_value w slots r row = (read (group_at w row (get_or slots r 0 / 8)) (get_or slots r 0)).value
