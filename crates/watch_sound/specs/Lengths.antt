-- What is counted of a list's key lengths. The code's own terms.
use Rattle.std.specs.Prelude.{ℕ, zero, suc, ◌+◌, cond, List, [], ◌∷◌, ltb}

-- the longest key that place k may have if n places are in use
abbrev pub longest_key : ℕ → ℕ → ℕ
longest_key k n = cond (ltb k n) 64 0

-- 1 where a byte is above a bound
unfoldable pub above_at : ℕ → ℕ → ℕ
above_at bound byte = cond (ltb bound byte) 1 0

-- how many keys are too long if the first n places are in use
unfoldable pub too_long : ℕ → List ℕ → ℕ
too_long n [] = 0
too_long zero (length ∷ lengths) = above_at 0 length + too_long zero lengths
too_long (suc n) (length ∷ lengths) = above_at 64 length + too_long n lengths
