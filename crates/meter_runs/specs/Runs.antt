-- Runs of groups in a row of w slots: n of them, the first of which is group g. The code's own terms.
use Rattle.std.specs.Prelude.{◌≡◌, ℕ, ◌+◌, ◌*◌, ◌≤◌, ◌<◌, Bool, not, ◌&&◌, List, length, take, drop}
use Rattle.group.specs.declared.Group.{Group}
use Rattle.group.specs.Results.{Outcome}
use Rattle.group_side.specs.Side.{any_merged}
use Rattle.answer.specs.Order.{earliest}
use Rattle.meter_memory.specs.Rows.{of_groups}
use Rattle.meter_memory.specs.Pairs.{pair_status}

-- they lie in both of two rows
abbrev pub InRows : ℕ → ℕ → ℕ → List ℕ → List ℕ → Type 0
InRows w n g row source = (8 * (g + n) ≤ w) × (w + (g + n) ≤ length row) × (w + (g + n) ≤ length source)

-- their merge bytes and their count bytes
abbrev pub merges_of : ℕ → ℕ → ℕ → List ℕ → List ℕ
merges_of w n g row = take n (drop (w + g) row)

abbrev pub counts_of : ℕ → ℕ → List ℕ → List ℕ
counts_of n g row = take (8 * n) (drop (8 * g) row)

-- whether none is merged in either of two rows
unfoldable pub none_merged : ℕ → ℕ → ℕ → List ℕ → List ℕ → Bool
none_merged w n g row source = not (any_merged (merges_of w n g row)) && not (any_merged (merges_of w n g source))

-- what an operation on them and on those of a source row answers together
unfoldable pub run_status : (Group → Group → Outcome) → ℕ → List ℕ → List ℕ → ℕ → ℕ → ℕ
run_status f w source row n g = earliest (of_groups (pair_status f w source row) n g)

-- and that it answers nothing for any of them
abbrev pub RunTaken : (Group → Group → Outcome) → ℕ → List ℕ → List ℕ → ℕ → ℕ → Type 0
RunTaken f w source row n g = (k : ℕ) → g ≤ k → k < g + n → pair_status f w source row k ≡ 0
