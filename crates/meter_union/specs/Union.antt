-- What a union does in one row of w slots. Document 01, 'Updating, asking, uniting'. Cited by contracts.
use Rattle.std.specs.Prelude.{ℕ, List}
use Rattle.group.specs.Results.{Outcome}
use Rattle.group.specs.Group.{united_groups}
use Rattle.meter_memory.specs.Pairs.{paired_at, pair_status, pairs_status, pair_groups, pair_row, row_status_by, row_paired_by}

-- a union adds each group of a source row to the same group of the row
abbrev pub united_at : ℕ → List ℕ → List ℕ → ℕ → Outcome
united_at w source row g = paired_at united_groups w source row g

abbrev pub united_status : ℕ → List ℕ → List ℕ → ℕ → ℕ
united_status w source row g = pair_status united_groups w source row g

abbrev pub unite_status : ℕ → List ℕ → List ℕ → ℕ
unite_status w source row = pairs_status united_groups w source row

abbrev pub unite_groups : ℕ → List ℕ → ℕ → ℕ → List ℕ → List ℕ
unite_groups w source n g row = pair_groups united_groups w source n g row

abbrev pub unite_row : ℕ → List ℕ → List ℕ → List ℕ
unite_row w source row = pair_row united_groups w source row

-- row r of a source added to that row
abbrev pub source_status : ℕ → List ℕ → ℕ → List ℕ → ℕ
source_status w source r row = row_status_by united_groups w source r row

abbrev pub source_added : ℕ → List ℕ → ℕ → List ℕ → List ℕ
source_added w source r row = row_paired_by united_groups w source r row
