-- What a union's layout is: the least that suits both blocks. Document 01, 'Updating, asking, uniting'. Cited by theorems.
use Rattle.std.specs.Prelude.{ℕ, ◌-◌, ◌^◌, ◌<◌, Bool, true, false, cond, ltb}
use Rattle.group_layout.specs.Layout.{Layout, merged, halves}
use Rattle.group_block.specs.Kind.{Kind}
use Rattle.group_block.specs.Block.{BlockOf, counter, split, shape, total}
use Rattle.group_block.specs.Sum.{SumOf, fits, over}

-- every block that the first layout merges is merged, or inside a merged block, in the second
unfoldable pub Inside : {n : ℕ} → Layout n → Layout n → Type 0
Inside L merged = Unit
Inside merged (halves l r) = ⊥
Inside (halves l r) (halves l' r') = Inside l l' × Inside r r'

-- a layout that merges all that either block merged, and in which each block's total from both fits its counter
unfoldable pub Suits : {K : Kind} {n : ℕ} → Layout n → BlockOf K n → BlockOf K n → Type 0
Suits {K} {n} merged x y = K.size (K.plus (total x) (total y)) < K.bound n
Suits (halves l r) (counter u) y = ⊥
Suits (halves l r) (split a b) (counter v) = ⊥
Suits (halves l r) (split a b) (split c d) = Suits l a c × Suits r b d

-- what a union has to be: a block whose layout suits both and is inside every layout that does, or, where none does, a sum that is over
unfoldable pub Least : {K : Kind} {n : ℕ} → BlockOf K n → BlockOf K n → SumOf K n → Type 0
Least {n} x y (fits z) = Suits (shape z) x y × ((L : Layout n) → Suits L x y → Inside (shape z) L)
Least {n} x y (over s) = (L : Layout n) → Suits L x y → ⊥

-- whether two slots, counted from the block's first, are in one counter
unfoldable pub together : {n : ℕ} → Layout n → ℕ → ℕ → Bool
together merged k j = true
together (halves {n} l r) k j =
    cond (ltb k (2 ^ n)) (cond (ltb j (2 ^ n)) (together l k j) false) (cond (ltb j (2 ^ n)) false (together r (k - 2 ^ n) (j - 2 ^ n)))
