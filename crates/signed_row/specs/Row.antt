-- What a signed meter's calls do in one row of w slots. Document 02, request 3. Cited by contracts and theorems.
use Rattle.std.specs.Prelude.{ℕ, ◌/◌, Bool, List, ℤ}
use Rattle.group.specs.Results.{Outcome}
use Rattle.signed_group.specs.Results.{Reading}
use Rattle.signed_group.specs.Group.{read, added, combined}
use Rattle.signed_number.specs.Number.{times_sign, integer_of}
use Rattle.meter_keys.specs.Keys.{key_slot, key_sign}
use Rattle.meter_memory.specs.Rows.{group_at, with_group}
use Rattle.meter_memory.specs.Pairs.{row_status_by, row_paired_by}

-- an amount added in the group of a slot
unfoldable pub added_in : ℕ → List ℕ → ℕ → ℤ → Outcome
added_in w row slot amount = added (group_at w row (slot / 8)) slot amount

abbrev pub added_row : ℕ → List ℕ → ℕ → ℤ → List ℕ
added_row w row slot amount = with_group w row (slot / 8) (added_in w row slot amount).group

-- an update adds the amount times the row's sign for the key
abbrev pub row_amount : ℕ → List ℕ → ℤ → ℕ → ℤ
row_amount state key amount r = times_sign (key_sign state key r) amount

unfoldable pub update_status : ℕ → ℕ → List ℕ → ℤ → ℕ → List ℕ → ℕ
update_status state w key amount r row = (added_in w row (key_slot state w key r) (row_amount state key amount r)).status

unfoldable pub update_row : ℕ → ℕ → List ℕ → ℤ → ℕ → List ℕ → List ℕ
update_row state w key amount r row = added_row w row (key_slot state w key r) (row_amount state key amount r)

-- an estimate reads the counter of the key's slot, and its figure is the counter's value times the row's sign
unfoldable pub read_row : ℕ → ℕ → List ℕ → ℕ → List ℕ → Reading
read_row state w key r row = read (group_at w row (key_slot state w key r / 8)) (key_slot state w key r)

unfoldable pub read_status : ℕ → ℕ → List ℕ → ℕ → List ℕ → ℕ
read_status state w key r row = (read_row state w key r row).status

unfoldable pub row_figure : ℕ → ℕ → List ℕ → ℕ → List ℕ → ℤ
row_figure state w key r row = times_sign (key_sign state key r) (integer_of (read_row state w key r row).value)

-- a source's row r added to that row or, with a minus, taken away from it
abbrev pub source_status : Bool → ℕ → List ℕ → ℕ → List ℕ → ℕ
source_status minus w source r row = row_status_by (combined minus) w source r row

abbrev pub source_combined : Bool → ℕ → List ℕ → ℕ → List ℕ → List ℕ
source_combined minus w source r row = row_paired_by (combined minus) w source r row
