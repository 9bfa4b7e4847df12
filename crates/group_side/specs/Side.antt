-- Unmerged groups side by side, by their count bytes and their merge bytes. The code's own terms: no call of the product cites them.
use Rattle.std.specs.Prelude.{ℕ, zero, suc, ◌+◌, ◌*◌, ◌%◌, Bool, true, false, not, ◌&&◌, ◌||◌, List, [], ◌∷◌, ◌++◌, take, drop, ◌==◌, nat_lt}
use Rattle.group.specs.declared.Group.{Group}
use Rattle.group.specs.Group.{united_groups}

-- whether some merge byte is not 0
unfoldable pub any_merged : List ℕ → Bool
any_merged [] = false
any_merged (m ∷ ms) = not (m == 0) || any_merged ms

-- whether no sum of two bytes, one of either list, passes 255
unfoldable pub fit : List ℕ → List ℕ → Bool
fit [] ys = true
fit (x ∷ xs) [] = true
fit (x ∷ xs) (y ∷ ys) = nat_lt (x + y) 256 && fit xs ys

-- those sums
unfoldable pub sums : List ℕ → List ℕ → List ℕ
sums [] ys = []
sums (x ∷ xs) [] = x ∷ xs
sums (x ∷ xs) (y ∷ ys) = (x + y) ∷ sums xs ys

-- and the sums modulo 256
unfoldable pub wrapped_sums : List ℕ → List ℕ → List ℕ
wrapped_sums [] ys = []
wrapped_sums (x ∷ xs) [] = x ∷ xs
wrapped_sums (x ∷ xs) (y ∷ ys) = (x + y) % 256 ∷ wrapped_sums xs ys

-- the unmerged group of eight count bytes
abbrev pub unmerged : List ℕ → Group
unmerged counts = record { counts = counts; merge = 0 }

-- the count bytes of group i
abbrev pub part : ℕ → List ℕ → List ℕ
part i counts = take 8 (drop (8 * i) counts)

-- the count bytes of n unmerged groups, each united with that of a source
unfoldable pub united_side : ℕ → List ℕ → List ℕ → List ℕ
united_side zero counts source = counts
united_side (suc n) counts source =
    (united_groups (unmerged (take 8 counts)) (unmerged (take 8 source))).group.counts ++ united_side n (drop 8 counts) (drop 8 source)

-- whether each of those unions is unmerged again
unfoldable pub stay_unmerged : ℕ → List ℕ → List ℕ → Bool
stay_unmerged zero counts source = true
stay_unmerged (suc n) counts source =
    ((united_groups (unmerged (take 8 counts)) (unmerged (take 8 source))).group.merge == 0) && stay_unmerged n (drop 8 counts) (drop 8 source)
