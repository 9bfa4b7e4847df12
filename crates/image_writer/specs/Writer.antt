-- What the writer's functions are told and leave. The code's own terms.
use Rattle.std.specs.Prelude.{ℕ, ◌+◌, ◌*◌, ◌/◌, ◌≤◌, List, ◌∷◌, map, length, take, drop}
use Rattle.image_format.specs.Image.{word, layout_kind, count_kind, groups_words, row_words}

-- these words have room at a position
abbrev pub Room : List ℕ → ℕ → List ℕ → Type 0
Room new p words = p + length new ≤ length words

abbrev pub GroupsRoom : ℕ → List ℕ → ℕ → ℕ → List ℕ → Type 0
GroupsRoom w row g p words = Room (groups_words 4 g w row) p words

abbrev pub RowRoom : ℕ → List ℕ → ℕ → List ℕ → Type 0
RowRoom w row p words = Room (row_words (w / 32) 0 w row) p words

-- the words of n slots that are not merged, from count byte `at` on, and of 32 such slots from group g on
abbrev pub count_words : ℕ → ℕ → List ℕ → List ℕ
count_words n at row = map (word count_kind) (take n (drop at row))

abbrev pub clear_words : ℕ → List ℕ → List ℕ
clear_words g row = word layout_kind 0 ∷ count_words 32 (8 * g) row
