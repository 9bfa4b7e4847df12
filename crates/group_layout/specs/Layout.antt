-- The layout of a block: which of its blocks are merged. Document 01, 'Rows, groups and blocks'. Cited by contracts and theorems.
use Rattle.std.specs.Prelude.{ℕ, zero, suc, ◌+◌, ◌-◌, ◌*◌, ◌/◌, ◌%◌, ◌^◌, max, Bool, cond, ◌&&◌, ◌||◌, eqb, ltb}

-- A block of level n has 2 ^ n slots. It is merged, one counter, or two blocks of the level below side by side.
-- A block of level 0, a single slot, counts as merged.
pub data Layout : ℕ → Type 0 where
  merged : {n : ℕ} → Layout n
  halves : {n : ℕ} → Layout n → Layout n → Layout (suc n)

-- bit k of a number, bit 0 being worth 1
unfoldable pub bit : ℕ → ℕ → Bool
bit m k = eqb (m / 2 ^ k % 2) 1

-- All merge bits of a block of level n, set. The block's slots have 2 ^ n bits, and the last belongs to no block of this level or below.
unfoldable pub ones : ℕ → ℕ
ones n = 2 ^ (2 ^ n - 1) - 1

-- The merge bits of a block: of a merged one its own bit and all bits of blocks inside it; of another the bits of its left half,
-- its own bit, bit 2 ^ n - 1, which is 0, and the bits of its right half.
unfoldable pub marks : {n : ℕ} → Layout n → ℕ
marks {n} merged = ones n
marks (halves {n} l r) = marks r * 2 ^ (2 ^ n) + marks l

-- the layout that merge bits stand for
unfoldable pub layout : (n : ℕ) → ℕ → Layout n
layout zero m = merged
layout (suc n) m = cond (bit m (2 ^ n - 1)) merged (halves (layout n (m % 2 ^ (2 ^ n))) (layout n (m / 2 ^ (2 ^ n))))

-- Valid merge bits: all of them set, or the block's own bit clear and the bits of both halves valid. The own bit is clear because
-- the left half's valid bits end before it.
unfoldable pub valid : ℕ → ℕ → Bool
valid zero m = eqb m 0
valid (suc n) m = eqb m (ones (suc n)) || (valid n (m % 2 ^ (2 ^ n)) && valid n (m / 2 ^ (2 ^ n)))

-- the largest level of any counter
unfoldable pub widest_in : {n : ℕ} → Layout n → ℕ
widest_in {n} merged = n
widest_in (halves l r) = max (widest_in l) (widest_in r)

-- the level of the counter that slot k, counted from the block's first, is in
unfoldable pub level_of : {n : ℕ} → Layout n → ℕ → ℕ
level_of {n} merged k = n
level_of (halves {n} l r) k = cond (ltb k (2 ^ n)) (level_of l k) (level_of r (k - 2 ^ n))
