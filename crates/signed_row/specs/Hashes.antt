-- What an update and an estimate do in the rows of a memory by the hashes of a key in the rows. The code's own terms.
use Rattle.std.specs.Prelude.{ℕ, ◌/◌, ◌<◌, ◌≡◌, cond, List, eqb, get_or, ℤ}
use Rattle.answer.specs.Order.{earliest}
use Rattle.hash.specs.Hash.{slot_of, sign_of}
use Rattle.group.specs.declared.Group.{Group}
use Rattle.group.specs.Results.{Outcome}
use Rattle.signed_group.specs.Results.{Reading}
use Rattle.signed_group.specs.Group.{read}
use Rattle.signed_number.specs.Number.{times_sign, integer_of}
use Rattle.geometry.specs.Geometry.{stride}
use Rattle.meter_memory.specs.Rows.{row_of, map_rows, of_rows, group_at, with_group}
use Rattle.signed_row.specs.Row.{added_in}

-- an update of a row by the hash there: what it leaves of the group, and the row with a group stored
abbrev pub added_by : ℕ → ℕ → ℤ → List ℕ → Outcome
added_by w hash amount row = added_in w row (slot_of hash w) (times_sign (sign_of hash) amount)

abbrev pub stored_by : ℕ → ℕ → Group → List ℕ → List ℕ
stored_by w hash x row = with_group w row (slot_of hash w / 8) x

-- of row r, by a list of hashes, and the first status of d rows
abbrev pub added_status : ℕ → List ℕ → ℤ → ℕ → List ℕ → ℕ
added_status w hashes amount r row = (added_by w (get_or hashes r 0) amount row).status

abbrev pub tried_status : ℕ → ℕ → List ℕ → ℤ → List ℕ → ℕ
tried_status d w hashes amount memory = earliest (of_rows (added_status w hashes amount) (stride w) d 0 memory)

abbrev pub hash_added : ℕ → List ℕ → ℤ → ℕ → List ℕ → List ℕ
hash_added w hashes amount r row = stored_by w (get_or hashes r 0) (added_by w (get_or hashes r 0) amount row).group row

-- the rows that updates of d rows leave
abbrev pub added_rows : ℕ → ℕ → List ℕ → ℤ → List ℕ → List ℕ
added_rows d w hashes amount memory = map_rows (hash_added w hashes amount) (stride w) d 0 memory

-- the memory after an update of a status: refused, it writes nothing
abbrev pub added_if : ℕ → ℕ → ℕ → List ℕ → ℤ → List ℕ → List ℕ
added_if status d w hashes amount memory = cond (eqb status 0) (added_rows d w hashes amount memory) memory

-- groups that are those updates', not yet stored
abbrev pub Added : ℕ → ℕ → List ℕ → List ℕ → ℤ → List Group → Type 0
Added d w memory hashes amount groups = (z : Group) (r : ℕ) → r < d → get_or groups r z ≡ (added_by w (get_or hashes r 0) amount (row_of w memory r)).group

-- what an estimate reads of a row by the hash there, and its figure
abbrev pub read_by : ℕ → ℕ → List ℕ → Reading
read_by w hash row = read (group_at w row (slot_of hash w / 8)) (slot_of hash w)

abbrev pub figure_by : ℕ → ℕ → List ℕ → ℤ
figure_by w hash row = times_sign (sign_of hash) (integer_of (read_by w hash row).value)

-- of row r, by a list of hashes
abbrev pub hash_status : ℕ → List ℕ → ℕ → List ℕ → ℕ
hash_status w hashes r row = (read_by w (get_or hashes r 0) row).status

abbrev pub hash_figure : ℕ → List ℕ → ℕ → List ℕ → ℤ
hash_figure w hashes r row = figure_by w (get_or hashes r 0) row
