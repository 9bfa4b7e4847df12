-- Where rows and groups lie in a meter's memory. Document 01, 'Rows, groups and blocks' and 'Where a key lands'. Cited by contracts.
use Rattle.std.specs.Prelude.{ℕ, zero, suc, ◌+◌, ◌*◌, min, max, List, [], ◌∷◌, ◌++◌, get_or, take, drop, set}
use Rattle.group.specs.declared.Group.{Group}
use Rattle.geometry.specs.Geometry.{stride}

-- row r of a memory
unfoldable pub row_of : ℕ → List ℕ → ℕ → List ℕ
row_of w memory r = take (stride w) (drop (r * stride w) memory)

-- What f makes of each of n rows of `stride` bytes, the first of which is row r. Bytes after the last row stay.
unfoldable pub map_rows : (ℕ → List ℕ → List ℕ) → ℕ → ℕ → ℕ → List ℕ → List ℕ
map_rows f stride zero r memory = memory
map_rows f stride (suc n) r memory = f r (take stride memory) ++ map_rows f stride n (r + 1) (drop stride memory)

-- what f reads of each of those rows
unfoldable pub of_rows : {A : Type 0} → (ℕ → List ℕ → A) → ℕ → ℕ → ℕ → List ℕ → List A
of_rows f stride zero r memory = []
of_rows f stride (suc n) r memory = f r (take stride memory) ∷ of_rows f stride n (r + 1) (drop stride memory)

-- Group g of a row of w slots: count bytes from 8 × g on, and the merge byte at w + g.
unfoldable pub group_at : ℕ → List ℕ → ℕ → Group
group_at w row g = record { counts = take 8 (drop (8 * g) row); merge = get_or row (w + g) 0 }

-- the row with another group g
unfoldable pub with_group : ℕ → List ℕ → ℕ → Group → List ℕ
with_group w row g x = set (take (8 * g) row ++ x.counts ++ drop (8 * g + 8) row) (w + g) x.merge

-- What f gives for each of n groups of a row, the first of which is group g.
unfoldable pub of_groups : (ℕ → ℕ) → ℕ → ℕ → List ℕ
of_groups f zero g = []
of_groups f (suc n) g = f g ∷ of_groups f n (g + 1)

-- the least of a number and of a list, the least of a list, and the largest
unfoldable pub least_or : ℕ → List ℕ → ℕ
least_or v [] = v
least_or v (x ∷ xs) = least_or (min v x) xs

unfoldable pub least : List ℕ → ℕ
least [] = 0
least (x ∷ xs) = least_or x xs

unfoldable pub largest : List ℕ → ℕ
largest [] = 0
largest (x ∷ xs) = max x (largest xs)
