-- What the counters of a union are. Document 01, 'Updating, asking, uniting': each block's total from both. Cited by theorems.
use Rattle.std.specs.Prelude.{◌≡◌, ℕ}
use Rattle.group_block.specs.Kind.{Kind}
use Rattle.group_block.specs.Block.{BlockOf, counter, split, total}
use Rattle.group_block.specs.Sum.{SumOf, fits, over}

-- each counter of the first block holds the total of the other two in its block
unfoldable pub OfBoth : {K : Kind} {n : ℕ} → BlockOf K n → BlockOf K n → BlockOf K n → Type 0
OfBoth {K} (counter v) x y = v ≡ K.plus (total x) (total y)
OfBoth (split l r) (counter u) y = ⊥
OfBoth (split l r) (split a b) (counter v) = ⊥
OfBoth (split l r) (split a b) (split c d) = OfBoth l a c × OfBoth r b d

-- what a union leaves: such a block, or the total of both
unfoldable pub SumOfBoth : {K : Kind} {n : ℕ} → SumOf K n → BlockOf K n → BlockOf K n → Type 0
SumOfBoth (fits z) x y = OfBoth z x y
SumOfBoth {K} (over s) x y = s ≡ K.plus (total x) (total y)
