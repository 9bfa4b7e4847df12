-- The traffic, and the figures that document 01 defines from it, in 'Traffic and its two figures'. Cited by theorems. Nothing here knows
-- of a meter's memory.
use Rattle.std.specs.Prelude.{ℕ, zero, suc, ◌+◌, ◌/◌, ◌^◌, min, Bool, false, cond, ◌||◌, List, [], ◌∷◌, leb, eqb}
use Rattle.group_block.specs.Block.{cap}
use Rattle.hash.specs.Hash.{basis}
use Rattle.meter_keys.specs.Keys.{key_slot, same_key}

-- The traffic, which document 01's book holds, is a list of pairs of key and amount.
pub record Pair : Type 0 where
  pub key : List ℕ
  pub amount : ℕ

-- the sum of the amounts of the pairs whose keys pass a test
unfoldable pub amount_sum : (List ℕ → Bool) → List Pair → ℕ
amount_sum test [] = 0
amount_sum test (p ∷ ps) = cond (test p.key) p.amount 0 + amount_sum test ps

-- a key's total: the sum of its pairs' amounts
unfoldable pub key_total : List ℕ → List Pair → ℕ
key_total key pairs = amount_sum (same_key key) pairs

-- The block of level n that a key lands in, in row r of w slots, counted from the row's first: block i of level n is the slots s with
-- s / 2 ^ n = i.
unfoldable pub block_of : ℕ → ℕ → ℕ → List ℕ → ℕ
block_of w r n key = key_slot basis w key r / 2 ^ n

-- a block's total: the sum of all pairs whose key lands in it in its row
unfoldable pub block_total : ℕ → ℕ → List Pair → ℕ → ℕ → ℕ
block_total w r pairs n i = amount_sum (λ key. eqb (block_of w r n key) i) pairs

-- whether some number below n passes a test
unfoldable pub any_below : ℕ → (ℕ → Bool) → Bool
any_below zero test = false
any_below (suc n) test = test n || any_below n test

-- whether some block of level n, of the d rows of w slots, has a total that no counter of level n holds: 2 ^ (8 × 2 ^ n) or more
unfoldable pub overflows : ℕ → ℕ → List Pair → ℕ → Bool
overflows d w pairs n = any_below d (λ r. any_below (w / 2 ^ n) (λ i. leb (cap n) (block_total w r pairs n i)))

-- the largest n of 1 to m for which some block of level n - 1 overflows, else 0
unfoldable pub level_up_to : ℕ → ℕ → List Pair → ℕ → ℕ
level_up_to d w pairs zero = 0
level_up_to d w pairs (suc m) = cond (overflows d w pairs m) (suc m) (level_up_to d w pairs m)

-- document 01's L
unfoldable pub level : ℕ → ℕ → List Pair → ℕ
level d w pairs = level_up_to d w pairs 3

-- the least of f 0 to f (n - 1)
unfoldable pub least_below : ℕ → (ℕ → ℕ) → ℕ
least_below zero f = 0
least_below (suc zero) f = f 0
least_below (suc (suc n)) f = min (least_below (suc n) f) (f (suc n))

-- The two figures. The lower is the key's total. The upper is the least, over the rows, of the totals of the level L blocks that the
-- key lands in.
unfoldable pub lower : List Pair → List ℕ → ℕ
lower pairs key = key_total key pairs

unfoldable pub landing_total : ℕ → ℕ → List Pair → List ℕ → ℕ → ℕ
landing_total w n pairs key r = block_total w r pairs n (block_of w r n key)

unfoldable pub upper : ℕ → ℕ → List Pair → List ℕ → ℕ
upper d w pairs key = least_below d (landing_total w (level d w pairs) pairs key)
