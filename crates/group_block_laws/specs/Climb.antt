-- An addition as a climb from the slot. Document 01, 'Updating, asking, uniting'. Cited by theorems.
-- Block i of level n has the slots i * 2 ^ n to i * 2 ^ n + 2 ^ n - 1, counted from the first of the block of level m that it is in. A climb
-- starts at a counter, so it meets no block inside one; what is said of such a block is said of the counter.
use Rattle.std.specs.Prelude.{ℕ, zero, suc, ◌+◌, ◌-◌, ◌*◌, ◌/◌, ◌%◌, ◌^◌, cond, ltb}
use Rattle.group_layout.specs.Layout.{ones, level_of}
use Rattle.group_block.specs.Kind.{Kind}
use Rattle.group_block.specs.Block.{BlockOf, counter, split, shape, counter_value, total}
use Rattle.group_block.specs.Sum.{SumOf, fits, over}

-- the sibling of block i
unfoldable pub sibling : ℕ → ℕ
sibling i = i + 1 - 2 * (i % 2)

-- the sum of every counter in block i of level n
unfoldable pub total_at : {K : Kind} {m : ℕ} → BlockOf K m → ℕ → ℕ → K.Value
total_at (counter v) n i = v
total_at {K} (split {n = m} l r) n i =
    cond (ltb m n) (K.plus (total l) (total r)) (cond (ltb i (2 ^ (m - n))) (total_at l n i) (total_at r n (i - 2 ^ (m - n))))

-- block i of level n formed: one counter with this value; its bit and all bits of blocks inside it are set (`form_bits`)
unfoldable pub form_at : {K : Kind} {m : ℕ} → BlockOf K m → ℕ → ℕ → K.Value → BlockOf K m
form_at (counter w) n i v = counter v
form_at (split {n = m} l r) n i v =
    cond (ltb m n) (counter v) (cond (ltb i (2 ^ (m - n))) (split (form_at l n i v) r) (split l (form_at r n (i - 2 ^ (m - n)) v)))

-- the bit of block i of level n and all bits of blocks inside it
unfoldable pub bits_at : ℕ → ℕ → ℕ
bits_at n i = ones n * 2 ^ (i * 2 ^ n)

-- A sum for block i of level n, with so many levels above it. If it fits the counter's width it is stored. If not, the block of the
-- next level is formed: its value is that sum plus every counter in the sibling block, and the width is tried again.
unfoldable pub climb : {K : Kind} {m : ℕ} → BlockOf K m → ℕ → ℕ → ℕ → K.Value → SumOf K m
climb {K} b zero n i s = cond (ltb (K.size s) (K.bound n)) (fits (form_at b n i s)) (over s)
climb {K} b (suc above) n i s =
    cond (ltb (K.size s) (K.bound n)) (fits (form_at b n i s)) (climb b above (suc n) (i / 2) (K.plus s (total_at b n (sibling i))))

-- the climb from the counter of slot k, with amount a added to its value
unfoldable pub climb_from : {K : Kind} {m : ℕ} → BlockOf K m → ℕ → K.Value → SumOf K m
climb_from {K} {m} b k a = climb b (m - level_of (shape b) k) (level_of (shape b) k) (k / 2 ^ level_of (shape b) k) (K.plus (counter_value b k) a)
