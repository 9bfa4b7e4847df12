-- Levels by merge bits, for a block of any level. The code's own terms: laws of Levels in proofs/ say that these sums are the level of
-- a slot's counter and the widest level.
use Rattle.std.specs.Prelude.{ℕ, zero, suc, ◌+◌, ◌-◌, ◌*◌, ◌/◌, ◌%◌, ◌^◌, max, ◌≡◌, Bool, ◌&&◌, eqb}
use Rattle.group_layout.specs.Layout.{Layout, level_of}

-- the own bit, 1 or 0, of block i of level j + 1, blocks of that level counted from 0: the last bit of its left half
unfoldable pub own_bit : ℕ → ℕ → ℕ → ℕ
own_bit j m i = m / 2 ^ (i * 2 ^ suc j + (2 ^ j - 1)) % 2

-- how many of the blocks of levels 1 to n around slot k have their own bit set
unfoldable pub merged_around : ℕ → ℕ → ℕ → ℕ
merged_around zero m k = 0
merged_around (suc n) m k = merged_around n m k + own_bit n m (k / 2 ^ suc n)

-- whether one of the first c blocks of level j + 1 has its own bit set, 1 or 0
unfoldable pub some_own : ℕ → ℕ → ℕ → ℕ
some_own j m zero = 0
some_own j m (suc c) = max (some_own j m c) (own_bit j m c)

-- how many of the levels 1 to i have a block with its own bit set, in a block of level n
unfoldable pub merged_levels : ℕ → ℕ → ℕ → ℕ
merged_levels n m zero = 0
merged_levels n m (suc i) = merged_levels n m i + some_own i m (2 ^ (n - suc i))

-- the counter of slot p has level j and is the left half of a block of the next level
abbrev pub IsLeft : {n : ℕ} → Layout n → ℕ → ℕ → Type 0
IsLeft L j p = (p % 2 ^ (j + 1) ≡ 0) × (level_of L p ≡ j)

-- whether from slot p on two counters of level j lie side by side
abbrev pub twins : {n : ℕ} → Layout n → ℕ → ℕ → Bool
twins L j p = eqb (level_of L p) j && eqb (level_of L (p + 2 ^ j)) j
