-- Counters hold the totals of their blocks, and layouts only grow: adding and uniting keep this, for any kind of meter and any level.
use mathlib.Core.Path.{◌≡◌, refl, sym, ap, ap₂, ◌∙◌}
use mathlib.Core.Bool.{Bool, true, false, cond}
use lib.Dec.{ltb}
use mathlib.Core.Logic.{⊎_elim}
use Prim.Native.Nat.{ℕ, suc, ◌+◌, ◌-◌, ◌*◌, ◌/◌, ◌%◌, ◌^◌, ◌≤◌}
use native.Mathlib.Nat.{zero-mod, zero-div}
use native.Mathlib.Decide.{ℕ_discrete}
use native.Mathlib.Omega.{arith}
use Rattle.group_layout.specs.Layout.{Layout, merged, halves, level_of}
use Rattle.group_layout.proofs.Laws.{level_le}
use Rattle.group_block.specs.declared.Counter.{Counter}
use Rattle.group_block.specs.Kind.{Kind}
use Rattle.group_block.specs.Block.{BlockOf, Block, counter, split, cap, shape, fill, counter_value, counter_at, total}
use Rattle.group_block.specs.Sum.{SumOf, fits, over, held, join, add, unite, sum_total}
use Rattle.group_block_laws.specs.Least.{Inside}
use Rattle.group_block_laws.specs.Counts.{Totals, Adds, Counts, SumCounts, Grows}
use Rattle.group_block.proofs.Sums.{Sums, swap, cross}
use Rattle.group_block_laws.proofs.Sides.{half, by_half}
use Rattle.group_block.proofs.Adding.{held_cases, add_halves}

-- a sum that is tried counts what the sum is
held_counts : (K : Kind) (t : Totals K) (n i : ℕ) (s : K.Value) → s ≡ t n i → SumCounts t i (held {K = K} n s)
unfolding SumCounts Counts
held_counts K t n i s e = held_cases n s (SumCounts t i) (λ h. e) (λ h. e)

module _ (K : Kind) (t : Totals K) (adds : Adds K t) where
  pub total_counts : {n : ℕ} (i : ℕ) (b : BlockOf K n) → Counts t i b → total b ≡ t n i
  unfolding Counts total
  total_counts i (counter v) c = c
  total_counts i (split {n} l r) c = ap₂ K.plus (total_counts (2 * i) l c.0) (total_counts (2 * i + 1) r c.1) ∙ sym (adds n i)

  sum_counts : {n : ℕ} (i : ℕ) (x : SumOf K n) → SumCounts t i x → sum_total x ≡ t n i
  unfolding SumCounts sum_total
  sum_counts i (fits b) c = total_counts i b c
  sum_counts i (over s) c = c

  join_counts : {n : ℕ} (i : ℕ) (x y : SumOf K n) → SumCounts t (2 * i) x → SumCounts t (2 * i + 1) y → SumCounts t i (join x y)
  unfolding SumCounts Counts join
  join_counts i (fits l) (fits r) c d = (c, d)
  join_counts {n} i (fits l) (over s) c d =
      held_counts K t (suc n) i (K.plus (total l) s) (ap₂ K.plus (total_counts (2 * i) l c) d ∙ sym (adds n i))
  join_counts {n} i (over s) y c d =
      held_counts K t (suc n) i (K.plus s (sum_total y)) (ap₂ K.plus c (sum_counts (2 * i + 1) y d) ∙ sym (adds n i))

-- cleared counters hold totals of nothing
pub clear_counts : (K : Kind) (z : K.Value) → ((n : ℕ) → K.read n 0 ≡ z) → {n : ℕ} (i : ℕ) (L : Layout n) → Counts (λ m j. z) i (fill {K = K} L 0)
unfolding Counts fill
clear_counts K z h {n} i merged = h n
clear_counts K z h i (halves {n} l r) = rw (zero-mod (cap n), zero-div (cap n)) (clear_counts K z h (2 * i) l, clear_counts K z h (2 * i + 1) r)

-- an amount more at a slot
pub record Plus (K : Kind) (t t' : Totals K) (s : ℕ) (a : K.Value) : Type 0 where
  pub at : (n i : ℕ) → s / 2 ^ n ≡ i → t' n i ≡ K.plus (t n i) a
  pub off : (n i : ℕ) → (s / 2 ^ n ≡ i → ⊥) → t' n i ≡ t n i

module _ (K : Kind) (t t' : Totals K) (s : ℕ) (a : K.Value) (p : Plus K t t' s a) where
  -- a block that the slot is not in
  pub off_counts : {n : ℕ} (i : ℕ) (b : BlockOf K n) → (s / 2 ^ n ≡ i → ⊥) → Counts t i b → Counts t' i b
  unfolding Counts
  off_counts {n} i (counter v) e c = c ∙ sym (p.off n i e)
  off_counts i (split {n} l r) e c =
      (off_counts (2 * i) l (λ h. e (half s n ∙ omega arith)) c.0, off_counts (2 * i + 1) r (λ h. e (half s n ∙ omega arith)) c.1)

  -- an addition to counters that hold the old totals leaves counters that hold the new, or the block's new total
  pub add_counts : Adds K t' → {n : ℕ} (i : ℕ) (b : BlockOf K n) → s / 2 ^ n ≡ i → Counts t i b → SumCounts t' i (add b (s % 2 ^ n) a)
  unfolding Counts SumCounts add
  add_counts adds {n} i (counter v) e c = held_counts K t' n i (K.plus v a) (ap (λ (x : K.Value). K.plus x a) c ∙ sym (p.at n i e))
  add_counts adds i (split {n} l r) e c = ⊎_elim
      (λ x. rw (x.test, x.place)
      (join_counts K t' adds i (add l (s % 2 ^ n) a) (fits r) (add_counts adds (2 * i) l x.is c.0) (off_counts (2 * i + 1) r (λ h. omega (arith, x.is)) c.1)))
      (λ x. rw (x.test, x.place)
      (join_counts K t' adds i (fits l) (add r (s % 2 ^ n) a) (off_counts (2 * i) l (λ h. omega (arith, x.is)) c.0) (add_counts adds (2 * i + 1) r x.is c.1)))
      (by_half s n i e)

  -- the new totals are sums of halves too
  pub plus_adds : Sums K → Adds K t → Adds K t'
  plus_adds S adds n i = elim (ℕ_discrete (s / 2 ^ suc n) i) [
    | yes e ↦ ⊎_elim
        (λ x.
        rw (p.at (suc n) i e, p.at n (2 * i) x.is, p.off n (2 * i + 1) (λ h. omega (arith, x.is)), adds n i)
        (swap S (t n (2 * i)) (t n (2 * i + 1)) a))
        (λ x.
        rw (p.at (suc n) i e, p.off n (2 * i) (λ h. omega (arith, x.is)), p.at n (2 * i + 1) x.is, adds n i)
        (S.assoc (t n (2 * i)) (t n (2 * i + 1)) a))
        (by_half s n i e)
    | no e ↦ rw (p.off (suc n) i e, p.off n (2 * i) (λ h. e (half s n ∙ omega arith)), p.off n (2 * i + 1) (λ h. e (half s n ∙ omega arith))) (adds n i)
  ]

-- the sums of two totals
module _ (K : Kind) (t u v : Totals K) (sum : (n i : ℕ) → v n i ≡ K.plus (t n i) (u n i)) where
  pub both_adds : Sums K → Adds K t → Adds K u → Adds K v
  both_adds S at au n i =
      sum (suc n) i ∙ ap₂ K.plus (at n i) (au n i) ∙ cross S (t n (2 * i)) (t n (2 * i + 1)) (u n (2 * i)) (u n (2 * i + 1))
      ∙ ap₂ K.plus (sym (sum n (2 * i))) (sym (sum n (2 * i + 1)))

  -- a union of counters that hold totals leaves counters that hold the sums of both, or the block's sum
  pub unite_counts : Adds K t → Adds K u → Adds K v → {n : ℕ} (i : ℕ) (x y : BlockOf K n) → Counts t i x → Counts u i y → SumCounts v i (unite x y)
  unfolding Counts SumCounts unite
  unite_counts at au av {n} i (counter w) y c d =
      held_counts K v n i (K.plus w (total y)) (ap₂ K.plus c (total_counts K u au i y d) ∙ sym (sum n i))
  unite_counts at au av i (split {n} l r) (counter w) c d =
      held_counts K v (suc n) i (K.plus (K.plus (total l) (total r)) w)
      (ap₂ K.plus (ap₂ K.plus (total_counts K t at (2 * i) l c.0) (total_counts K t at (2 * i + 1) r c.1) ∙ sym (at n i)) d ∙ sym (sum (suc n) i))
  unite_counts at au av i (split l r) (split l' r') c d =
      join_counts K v av i (unite l l') (unite r r') (unite_counts at au av (2 * i) l l' c.0 d.0) (unite_counts at au av (2 * i + 1) r r' c.1 d.1)

-- a slot's counter holds the total of the block of its level that the slot is in
pub value_counts : (K : Kind) (t : Totals K) {n : ℕ} (i s : ℕ) (b : BlockOf K n) → s / 2 ^ n ≡ i → Counts t i b
    → counter_value b (s % 2 ^ n) ≡ t (level_of (shape b) (s % 2 ^ n)) (s / 2 ^ level_of (shape b) (s % 2 ^ n))
unfolding Counts counter_value level_of shape
value_counts K t {n} i s (counter v) e c = c ∙ ap (t n) (sym e)
value_counts K t i s (split {n} l r) e c = ⊎_elim
    (λ x. rw (x.test, x.place) (value_counts K t (2 * i) s l x.is c.0))
    (λ x. rw (x.test, x.place) (value_counts K t (2 * i + 1) s r x.is c.1))
    (by_half s n i e)

-- what is read of a slot is the value and the level of its counter
pub counter_at_lem : {n : ℕ} (b : Block n) (k : ℕ) → counter_at b k ≡ record { value = counter_value b k; level = level_of (shape b) k }
unfolding counter_at counter_value level_of shape
counter_at_lem (counter v) k = refl
counter_at_lem (split {n} l r) k = go (ltb k (2 ^ n)) (counter_at_lem l k) (counter_at_lem r (k - 2 ^ n))
  where
    read : Bool → Counter
    read t = record {
      value = cond t (counter_value l k) (counter_value r (k - 2 ^ n));
      level = cond t (level_of (shape l) k) (level_of (shape r) (k - 2 ^ n));
    }

    go : (t : Bool) → counter_at l k ≡ record { value = counter_value l k; level = level_of (shape l) k }
        → counter_at r (k - 2 ^ n) ≡ record { value = counter_value r (k - 2 ^ n); level = level_of (shape r) (k - 2 ^ n) }
        → cond t (counter_at l k) (counter_at r (k - 2 ^ n)) ≡ read t
    go true p q = p
    go false p q = q

-- layouts only grow
held_grows : (K : Kind) (n : ℕ) (L : Layout n) (s : K.Value) → Grows L (held {K = K} n s)
unfolding Grows shape Inside
held_grows K n L s = held_cases n s (Grows L) (λ h. tt) (λ h. tt)

join_grows : {K : Kind} {n : ℕ} (l r : Layout n) (x y : SumOf K n) → Grows l x → Grows r y → Grows (halves l r) (join x y)
unfolding Grows shape Inside join
join_grows l r (fits x) (fits y) p q = (p, q)
join_grows {K} {n} l r (fits x) (over s) p q = held_grows K (suc n) (halves l r) (K.plus (total x) s)
join_grows {K} {n} l r (over s) y p q = held_grows K (suc n) (halves l r) (K.plus s (sum_total y))

inside_refl : {n : ℕ} (L : Layout n) → Inside L L
unfolding Inside
inside_refl merged = tt
inside_refl (halves l r) = (inside_refl l, inside_refl r)

-- so the counter of a slot is of no lower a level
pub inside_level : {n : ℕ} (L M : Layout n) (k : ℕ) → Inside L M → level_of L k ≤ level_of M k
unfolding Inside level_of
inside_level L merged k p = level_le L k
inside_level merged (halves l r) k p = absurd p
inside_level (halves {n} l r) (halves l' r') k p = go (ltb k (2 ^ n)) (inside_level l l' k p.0) (inside_level r r' (k - 2 ^ n) p.1)
  where
    go : (t : Bool) → level_of l k ≤ level_of l' k → level_of r (k - 2 ^ n) ≤ level_of r' (k - 2 ^ n)
        → cond t (level_of l k) (level_of r (k - 2 ^ n)) ≤ cond t (level_of l' k) (level_of r' (k - 2 ^ n))
    go true a b = a
    go false a b = b

pub add_grows : {K : Kind} {n : ℕ} (b : BlockOf K n) (k : ℕ) (a : K.Value) → Grows (shape b) (add b k a)
unfolding add shape Grows
add_grows {K} {n} (counter v) k a = held_grows K n merged (K.plus v a)
add_grows (split {n} l r) k a =
    add_halves l r k a (Grows (halves (shape l) (shape r)))
    (λ e. join_grows (shape l) (shape r) (add l k a) (fits r) (add_grows l k a) (inside_refl (shape r)))
    (λ e. join_grows (shape l) (shape r) (fits l) (add r (k - 2 ^ n) a) (inside_refl (shape l)) (add_grows r (k - 2 ^ n) a))

pub unite_grows : {K : Kind} {n : ℕ} (x y : BlockOf K n) → Grows (shape x) (unite x y) × Grows (shape y) (unite x y)
unfolding unite shape
unite_grows {K} {n} (counter u) y = (held_grows K n merged (K.plus u (total y)), held_grows K n (shape y) (K.plus u (total y)))
unite_grows {K} (split {n} l r) (counter v) =
    (held_grows K (suc n) (halves (shape l) (shape r)) (K.plus (K.plus (total l) (total r)) v), held_grows K (suc n) merged (K.plus (K.plus (total l) (total r)) v))
unite_grows (split l r) (split l' r') =
    let p = unite_grows l l' in
    let q = unite_grows r r' in
    (join_grows (shape l) (shape r) (unite l l') (unite r r') p.0 q.0, join_grows (shape l') (shape r') (unite l l') (unite r r') p.1 q.1)
