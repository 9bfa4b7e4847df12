-- Another value in one counter of a block. Cited by contracts.
use Rattle.std.specs.Prelude.{ℕ, ◌-◌, ◌%◌, ◌^◌, cond, ltb}
use Rattle.group_block.specs.Block.{Block, counter, split, cap}

-- The block with value x in the counter of slot k, counted from the block's first: of x the bits that the counter holds.
unfoldable pub change : {n : ℕ} → Block n → ℕ → ℕ → Block n
change {n} (counter v) k x = counter (x % cap n)
change (split {n} l r) k x = cond (ltb k (2 ^ n)) (split (change l k x) r) (split l (change r (k - 2 ^ n) x))
