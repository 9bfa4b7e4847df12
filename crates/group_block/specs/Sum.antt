-- Adding to a block and uniting two. Document 01, 'Updating, asking, uniting'. Cited by contracts and theorems.
use Rattle.std.specs.Prelude.{ℕ, suc, ◌-◌, ◌^◌, cond, ltb}
use Rattle.group_block.specs.Kind.{Kind, ordinary}
use Rattle.group_block.specs.Block.{BlockOf, counter, split, total}

-- What an addition or a union leaves of a block of level n: a block, or a sum that no counter of level n holds.
pub data SumOf (K : Kind) (n : ℕ) : Type 0 where
  fits : BlockOf K n → SumOf K n
  over : K.Value → SumOf K n

abbrev pub Sum : ℕ → Type 0
Sum n = SumOf ordinary n

-- the total that a Sum stands for
unfoldable pub sum_total : {K : Kind} {n : ℕ} → SumOf K n → K.Value
sum_total (fits b) = total b
sum_total (over s) = s

-- a sum stored in the one counter of a block, if it fits the counter's width
unfoldable pub held : {K : Kind} (n : ℕ) → K.Value → SumOf K n
held {K} n s = cond (ltb (K.size s) (K.bound n)) (fits (counter s)) (over s)

-- Two halves side by side. Where a half's sum did not fit, the block of the next level is formed: its value is that sum plus every
-- counter of the sibling, and the width is tried again.
unfoldable pub join : {K : Kind} {n : ℕ} → SumOf K n → SumOf K n → SumOf K (suc n)
join (fits l) (fits r) = fits (split l r)
join {K} {n} (fits l) (over t) = held (suc n) (K.plus (total l) t)
join {K} {n} (over s) y = held (suc n) (K.plus s (sum_total y))

-- an amount a added to the counter of slot k, counted from the block's first
unfoldable pub add : {K : Kind} {n : ℕ} → BlockOf K n → ℕ → K.Value → SumOf K n
add {K} {n} (counter v) k a = held n (K.plus v a)
add (split {n} l r) k a = cond (ltb k (2 ^ n)) (join (add l k a) (fits r)) (join (fits l) (add r (k - 2 ^ n) a))

-- two blocks united: where either is one counter, so is the union
unfoldable pub unite : {K : Kind} {n : ℕ} → BlockOf K n → BlockOf K n → SumOf K n
unite {K} {n} (counter u) y = held n (K.plus u (total y))
unite {K} (split {n} l r) (counter v) = held (suc n) (K.plus (K.plus (total l) (total r)) v)
unite (split l r) (split l' r') = join (unite l l') (unite r r')
