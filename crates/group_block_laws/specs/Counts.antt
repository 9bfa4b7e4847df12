-- What a block's counters hold: the totals of their blocks. Cited by theorems.
use Rattle.std.specs.Prelude.{ℕ, suc, ◌+◌, ◌*◌, ◌≡◌}
use Rattle.group_layout.specs.Layout.{Layout}
use Rattle.group_block.specs.Kind.{Kind}
use Rattle.group_block.specs.Block.{BlockOf, counter, split, shape}
use Rattle.group_block.specs.Sum.{SumOf, fits, over}
use Rattle.group_block_laws.specs.Least.{Inside}

-- the total of each block, by its level and its index among the blocks of that level
abbrev pub Totals : Kind → Type 0
Totals K = ℕ → ℕ → K.Value

-- a block's total is the sum of its halves'
abbrev pub Adds : (K : Kind) → Totals K → Type 0
Adds K t = (n i : ℕ) → t (suc n) i ≡ K.plus (t n (2 * i)) (t n (2 * i + 1))

-- every counter of the block of this index holds the total of its block
unfoldable pub Counts : {K : Kind} {n : ℕ} → Totals K → ℕ → BlockOf K n → Type 0
Counts {K} {n} t i (counter v) = v ≡ t n i
Counts t i (split l r) = Counts t (2 * i) l × Counts t (2 * i + 1) r

unfoldable pub SumCounts : {K : Kind} {n : ℕ} → Totals K → ℕ → SumOf K n → Type 0
SumCounts t i (fits b) = Counts t i b
SumCounts {K} {n} t i (over s) = s ≡ t n i

-- every block that a layout merges is merged, or inside a merged block, in what is left
unfoldable pub Grows : {K : Kind} {n : ℕ} → Layout n → SumOf K n → Type 0
Grows L (fits b) = Inside L (shape b)
Grows L (over s) = Unit
