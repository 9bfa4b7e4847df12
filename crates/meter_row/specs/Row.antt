-- What a meter's calls but a union do in one row of w slots. Document 01, 'Where a key lands' and 'Updating, asking, uniting'. Cited by contracts.
use Rattle.std.specs.Prelude.{ℕ, ◌/◌, List}
use Rattle.group.specs.Results.{Outcome}
use Rattle.group.specs.Results.{Reading}
use Rattle.group.specs.Group.{read, added, widest_of}
use Rattle.meter_keys.specs.Keys.{key_slot}
use Rattle.answer.specs.Order.{earliest}
use Rattle.meter_memory.specs.Rows.{group_at, with_group, of_groups, largest}

-- an update adds an amount in the group of the key's slot
unfoldable pub added_in : ℕ → List ℕ → ℕ → ℕ → Outcome
added_in w row slot amount = added (group_at w row (slot / 8)) slot amount

abbrev pub added_row : ℕ → List ℕ → ℕ → ℕ → List ℕ
added_row w row slot amount = with_group w row (slot / 8) (added_in w row slot amount).group

unfoldable pub update_status : ℕ → ℕ → List ℕ → ℕ → ℕ → List ℕ → ℕ
update_status state w key amount r row = (added_in w row (key_slot state w key r) amount).status

unfoldable pub update_row : ℕ → ℕ → List ℕ → ℕ → ℕ → List ℕ → List ℕ
update_row state w key amount r row = added_row w row (key_slot state w key r) amount

-- an estimate reads the counter of the key's slot
unfoldable pub read_row : ℕ → ℕ → List ℕ → ℕ → List ℕ → Reading
read_row state w key r row = read (group_at w row (key_slot state w key r / 8)) (key_slot state w key r)

-- the widest level looks at every group
unfoldable pub level_status : ℕ → List ℕ → ℕ → ℕ
level_status w row g = (widest_of (group_at w row g).merge).status

unfoldable pub group_level : ℕ → List ℕ → ℕ → ℕ
group_level w row g = (widest_of (group_at w row g).merge).value

unfoldable pub widest_status : ℕ → List ℕ → ℕ
widest_status w row = earliest (of_groups (level_status w row) (w / 8) 0)

unfoldable pub widest_row : ℕ → List ℕ → ℕ
widest_row w row = largest (of_groups (group_level w row) (w / 8) 0)

abbrev pub row_status : ℕ → ℕ → List ℕ → ℕ
row_status w r row = widest_status w row

abbrev pub row_level : ℕ → ℕ → List ℕ → ℕ
row_level w r row = widest_row w row
