-- An operation on two groups, in a row of w slots and in the rows of a meter. Cited by contracts and theorems. The other group is a
-- source's.
use Rattle.std.specs.Prelude.{ℕ, zero, suc, ◌+◌, ◌/◌, List}
use Rattle.group.specs.declared.Group.{Group}
use Rattle.group.specs.Results.{Outcome}
use Rattle.answer.specs.Order.{earliest}
use Rattle.meter_memory.specs.Rows.{row_of, group_at, with_group, of_groups}

-- the operation on group g of a row and that of a source row
unfoldable pub paired_at : (Group → Group → Outcome) → ℕ → List ℕ → List ℕ → ℕ → Outcome
paired_at f w source row g = f (group_at w row g) (group_at w source g)

unfoldable pub pair_status : (Group → Group → Outcome) → ℕ → List ℕ → List ℕ → ℕ → ℕ
pair_status f w source row g = (paired_at f w source row g).status

-- the first status of all groups of a row
unfoldable pub pairs_status : (Group → Group → Outcome) → ℕ → List ℕ → List ℕ → ℕ
pairs_status f w source row = earliest (of_groups (pair_status f w source row) (w / 8) 0)

-- the row with what the operation leaves of n groups, the first of which is group g, and of all groups
unfoldable pub pair_groups : (Group → Group → Outcome) → ℕ → List ℕ → ℕ → ℕ → List ℕ → List ℕ
pair_groups f w source zero g row = row
pair_groups f w source (suc n) g row = pair_groups f w source n (g + 1) (with_group w row g (paired_at f w source row g).group)

unfoldable pub pair_row : (Group → Group → Outcome) → ℕ → List ℕ → List ℕ → List ℕ
pair_row f w source row = pair_groups f w source (w / 8) 0 row

-- the same of row r and that row of a source
unfoldable pub row_status_by : (Group → Group → Outcome) → ℕ → List ℕ → ℕ → List ℕ → ℕ
row_status_by f w source r row = pairs_status f w (row_of w source r) row

unfoldable pub row_paired_by : (Group → Group → Outcome) → ℕ → List ℕ → ℕ → List ℕ → List ℕ
row_paired_by f w source r row = pair_row f w (row_of w source r) row
