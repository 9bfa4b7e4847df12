-- A union's counters are the totals of both sides in their blocks, and a union is the only block with these counters and the least
-- layout that suits both, for any kind of counter and any level.
use mathlib.Core.Path.{◌≡◌, refl, sym, ap, ap₂, ◌∙◌}
use Prim.Native.Nat.{ℕ}
use native.Mathlib.Omega.{arith}
use Rattle.group_block.specs.Kind.{Kind}
use Rattle.group_block.specs.Block.{BlockOf, Block, counter, split, cap, shape, total}
use Rattle.group_block.specs.Sum.{SumOf, fits, over, held, join, unite, sum_total}
use Rattle.group_block_laws.specs.Least.{Inside, Least}
use Rattle.group_block.proofs.Sums.{Sums, cross}
use Rattle.group_block.proofs.Adding.{held_cases, unite_total_of}
use Rattle.group_block_laws.proofs.Least.{unite_least_of}
use Rattle.group_block_laws.specs.Union.{OfBoth, SumOfBoth}

held_of_both : {K : Kind} {n : ℕ} (s : K.Value) (x y : BlockOf K n) → s ≡ K.plus (total x) (total y) → SumOfBoth (held n s) x y
unfolding OfBoth SumOfBoth
held_of_both {K} {n} s x y e = held_cases n s (λ z. SumOfBoth z x y) (λ h. e) (λ h. e)

join_of_both : {K : Kind} (S : Sums K) {n : ℕ} (a b c d : BlockOf K n) (x y : SumOf K n) → SumOfBoth x a c → SumOfBoth y b d
    → sum_total x ≡ K.plus (total a) (total c) → sum_total y ≡ K.plus (total b) (total d)
    → SumOfBoth (join x y) (split a b) (split c d)
unfolding OfBoth SumOfBoth join total sum_total
join_of_both S a b c d (fits l) (fits r) p q e f = (p, q)
join_of_both {K} S a b c d (fits l) (over t) p q e f =
    held_of_both (K.plus (total l) t) (split a b) (split c d) (rw (e, f) (cross S (total a) (total c) (total b) (total d)))
join_of_both {K} S a b c d (over t) y p q e f =
    held_of_both (K.plus t (sum_total y)) (split a b) (split c d) (rw (e, f) (cross S (total a) (total c) (total b) (total d)))

-- each counter of a union holds the total of both sides in its block
pub unite_of_both : {K : Kind} (S : Sums K) {n : ℕ} (x y : BlockOf K n) → SumOfBoth (unite x y) x y
unfolding unite total
unite_of_both {K} S (counter u) y = held_of_both (K.plus u (total y)) (counter u) y refl
unite_of_both {K} S (split l r) (counter v) = held_of_both (K.plus (K.plus (total l) (total r)) v) (split l r) (counter v) refl
unite_of_both S (split a b) (split c d) =
    join_of_both S a b c d (unite a c) (unite b d) (unite_of_both S a c) (unite_of_both S b d) (unite_total_of S a c) (unite_total_of S b d)

-- blocks of one layout with these counters are the same
same : {K : Kind} {n : ℕ} (z w x y : BlockOf K n) → Inside (shape z) (shape w) → Inside (shape w) (shape z) → OfBoth z x y → OfBoth w x y → z ≡ w
unfolding Inside shape OfBoth
same (counter v) (counter w) x y i j p q = ap counter (p ∙ sym q)
same (counter v) (split l r) x y i j p q = absurd i
same (split l r) (counter w) x y i j p q = absurd j
same (split l r) (split l' r') (counter u) y i j p q = absurd p
same (split l r) (split l' r') (split a b) (counter v) i j p q = absurd p
same (split l r) (split l' r') (split a b) (split c d) i j p q =
    ap₂ split (same l l' a c i.0 j.0 p.0 q.0) (same r r' b d i.1 j.1 p.1 q.1)

-- the least layout that suits both and counters that are the totals of both make the union
pub union_only : {K : Kind} (S : Sums K) {n : ℕ} (x y : BlockOf K n) (z : SumOf K n) → Least x y z → SumOfBoth z x y → z ≡ unite x y
unfolding Least OfBoth SumOfBoth
union_only {K} S {n} x y z l p = go z (unite x y) l p (unite_least_of S x y) (unite_of_both S x y)
  where
    go : (z w : SumOf K n) → Least x y z → SumOfBoth z x y → Least x y w → SumOfBoth w x y → z ≡ w
    go (fits z) (fits w) l p m q = ap fits (same z w x y (l.1 (shape w) m.0) (m.1 (shape z) l.0) p q)
    go (fits z) (over t) l p m q = absurd (m (shape z) l.0)
    go (over s) (fits w) l p m q = absurd (l (shape w) m.0)
    go (over s) (over t) l p m q = ap over (p ∙ sym q)

-- A worked case: {1, 2} united with {3, 4} is {4, 6}; {5, 5} has the same layout and the same total, and other counters.
abbrev pair : ℕ → ℕ → Block 1
pair u v = split (counter u) (counter v)

pub union_case : unite (pair 1 2) (pair 3 4) ≡ fits (pair 4 6)
unfolding unite join held total cap
union_case = refl

pub not_five_five : OfBoth (pair 5 5) (pair 1 2) (pair 3 4) → ⊥
unfolding OfBoth total
not_five_five h = omega (arith, h.0)
