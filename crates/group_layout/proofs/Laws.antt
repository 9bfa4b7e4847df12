-- Laws of merge bits, for any level.
use mathlib.Core.Path.{◌≡◌, refl, sym, ap, ◌∙◌}
use mathlib.Core.Bool.{Bool, true, false, cond, ◌&&◌, or-true, and-eq-true_iff, true≢false}
use mathlib.Core.Logic.{⊎_elim}
use Prim.Native.Nat.{ℕ, zero, suc, ◌+◌, ◌-◌, ◌*◌, ◌/◌, ◌%◌, ◌^◌, ◌≤◌, ◌<◌}
use native.Mathlib.Nat.{mul_assoc, mul_comm, pow-suc, mul-mod_left}
use native.Mathlib.Numerals.{sub-one}
use native.Mathlib.Omega.{arith}
use borrow.Author.Tests.{eq-eqb, ne_eqb, eqb-true}
use lib.Arith.{digits_lt}
use lib.Dec.{eqb, ltb}
use lib.Pow.{pow_pos, pow-add, ones_lt, ones_split, high, low, split}
use Rattle.laws.proofs.Tests.{or_cases}
use Rattle.group_layout.specs.Layout.{Layout, merged, halves, bit, ones, marks, layout, valid, widest_in, level_of}
use Rattle.group_layout.specs.Merged.{is_merged}

-- the bits of two halves and the bit between them
pub twice : (n : ℕ) → 2 ^ n - 1 + 2 ^ n ≡ 2 ^ suc n - 1
twice n = omega (arith, pow_pos n)

-- one bit more
pub double : (n : ℕ) → 2 ^ (2 ^ n) ≡ 2 * 2 ^ (2 ^ n - 1)
double n = ap (λ (k : ℕ). 2 ^ k) (omega (arith, pow_pos n)) ∙ pow-suc 2 (2 ^ n - 1) ∙ mul_comm (2 ^ (2 ^ n - 1)) 2

pub marks_lt : {n : ℕ} (L : Layout n) → marks L < 2 ^ (2 ^ n - 1)
unfolding marks ones
marks_lt {n} merged = ones_lt (2 ^ n - 1)
marks_lt (halves {n} l r) =
    rw (← twice n, pow-add) (digits_lt (marks_lt r) (omega (arith, marks_lt l, double n)))

pub marks_in : {n : ℕ} (L : Layout n) → marks L < 2 ^ (2 ^ n)
marks_in {n} L = omega (arith, marks_lt L, double n)

-- a merged block's own bit is set
bit_ones : (n : ℕ) → bit (ones (suc n)) (2 ^ n - 1) ≡ true
unfolding bit ones
bit_ones n =
    let e : 2 ^ suc n - 1 ≡ 2 ^ n + (2 ^ n - 1) = omega (arith, pow_pos n) in
    let h : (2 ^ (2 ^ suc n - 1) - 1) / 2 ^ (2 ^ n - 1) ≡ 2 ^ (2 ^ n) - 1 =
    rw (e, ones_split (2 ^ n) (2 ^ n - 1)) (high (2 ^ (2 ^ n) - 1) (2 ^ n - 1) (ones_lt (2 ^ n - 1))) in
    rw h (eq-eqb ((2 ^ (2 ^ n) - 1) % 2) 1 (omega (arith, double n, pow_pos (2 ^ n - 1))))

-- the bits of two halves taken apart
low_half : {n : ℕ} (l r : Layout n) → (marks r * 2 ^ (2 ^ n) + marks l) % 2 ^ (2 ^ n) ≡ marks l
low_half {n} l r = low (marks r) (2 ^ n) (marks_in l)

high_half : {n : ℕ} (l r : Layout n) → (marks r * 2 ^ (2 ^ n) + marks l) / 2 ^ (2 ^ n) ≡ marks r
high_half {n} l r = high (marks r) (2 ^ n) (marks_in l)

pub bit_halves : {n : ℕ} (l r : Layout n) → bit (marks r * 2 ^ (2 ^ n) + marks l) (2 ^ n - 1) ≡ false
unfolding bit
bit_halves {n} l r =
    let e : marks r * 2 ^ (2 ^ n) ≡ marks r * 2 * 2 ^ (2 ^ n - 1) = rw (double n) (sym (mul_assoc (marks r) 2 (2 ^ (2 ^ n - 1)))) in
    rw (e, high (marks r * 2) (2 ^ n - 1) (marks_lt l), mul-mod_left (marks r) 2)

-- merge bits stand for the layout that they were made of
pub layout_marks : {n : ℕ} (L : Layout n) → layout n (marks L) ≡ L
unfolding layout marks
layout_marks {n} merged = go n
  where
    go : (k : ℕ) → layout k (ones k) ≡ merged
    go zero = refl
    go (suc k) = rw (bit_ones k)
layout_marks (halves {n} l r) = rw (bit_halves l r, low_half l r, high_half l r, layout_marks l, layout_marks r)

pub valid_marks : {n : ℕ} (L : Layout n) → valid n (marks L) ≡ true
unfolding valid marks ones
valid_marks {n} merged = go n
  where
    go : (k : ℕ) → valid k (ones k) ≡ true
    go zero = refl
    go (suc k) = rw (eq-eqb (ones (suc k)) (ones (suc k)) refl)
valid_marks (halves {n} l r) = rw (low_half l r, high_half l r, valid_marks l, valid_marks r) (or-true (eqb (marks r * 2 ^ (2 ^ n) + marks l) (ones (suc n))))

-- valid bits are those of a layout
pub valid_is : (n m : ℕ) → valid n m ≡ true → (L : Layout n) × (marks L ≡ m)
unfolding valid marks ones
valid_is zero m v = (merged, sym (eqb-true m 0 v))
valid_is (suc n) m v =
    ⊎_elim (λ e. (merged, sym (eqb-true m (ones (suc n)) e)))
    (λ e.
    let p = (and-eq-true_iff (valid n (m % 2 ^ (2 ^ n))) (valid n (m / 2 ^ (2 ^ n)))).0 e in
    let l = valid_is n (m % 2 ^ (2 ^ n)) p.0 in
    let r = valid_is n (m / 2 ^ (2 ^ n)) p.1 in
    (halves l.0 r.0, rw (l.1, r.1) (split m (2 ^ n))))
    (or_cases (eqb m (ones (suc n))) (valid n (m % 2 ^ (2 ^ n)) && valid n (m / 2 ^ (2 ^ n))) v)

pub marks_layout : (n m : ℕ) → valid n m ≡ true → marks (layout n m) ≡ m
marks_layout n m v =
    let s = valid_is n m v in
    rw (← s.1, layout_marks s.0)

pub valid_in : (n m : ℕ) → valid n m ≡ true → m < 2 ^ (2 ^ n)
valid_in n m v = rw (← marks_layout n m v) (marks_in (layout n m))

valid_halves : (n m : ℕ) → valid (suc n) m ≡ true → bit m (2 ^ n - 1) ≡ false
    → (valid n (m % 2 ^ (2 ^ n)) ≡ true) × (valid n (m / 2 ^ (2 ^ n)) ≡ true)
unfolding marks
valid_halves n m v b = go (valid_is (suc n) m v).0 (valid_is (suc n) m v).1
  where
    go : (L : Layout (suc n)) → marks L ≡ m → (valid n (m % 2 ^ (2 ^ n)) ≡ true) × (valid n (m / 2 ^ (2 ^ n)) ≡ true)
    go merged e = absurd (true≢false (sym (bit_ones n) ∙ ap (λ (x : ℕ). bit x (2 ^ n - 1)) e ∙ b))
    go (halves l r) e = (rw (← e, low_half l r) (valid_marks l), rw (← e, high_half l r) (valid_marks r))

pub widest_le : {n : ℕ} (L : Layout n) → widest_in L ≤ n
unfolding widest_in
widest_le merged = omega arith
widest_le (halves l r) = omega (arith, widest_le l, widest_le r)

-- the level of a slot's counter is at most the block's
pub level_le : {m : ℕ} (L : Layout m) (k : ℕ) → level_of L k ≤ m
unfolding level_of
level_le merged k = omega arith
level_le (halves {n = m} l r) k = go (ltb k (2 ^ m)) (level_le l k) (level_le r (k - 2 ^ m))
  where
    go : (t : Bool) → level_of l k ≤ m → level_of r (k - 2 ^ m) ≤ m → cond t (level_of l k) (level_of r (k - 2 ^ m)) ≤ suc m
    go true p q = omega arith
    go false p q = omega arith

-- What the recursions on the level meet: a merged block or two halves. A function of the layout is taken where the halves' level is
-- n - 1, since n is its successor only by a proof.
pub is_merged_lem : {n : ℕ} (L : Layout n) → is_merged L ≡ true → L ≡ merged
unfolding is_merged
is_merged_lem merged e = refl
is_merged_lem (halves l r) e = absurd (true≢false (sym e))

pub own_bit_lem : (n m : ℕ) → 0 < n → is_merged (layout n m) ≡ bit m (2 ^ (n - 1) - 1)
unfolding layout is_merged
own_bit_lem zero m h = absurd (omega arith)
own_bit_lem (suc n) m h = rw (sub-one (suc n)) (go (bit m (2 ^ n - 1)))
  where
    go : (b : Bool) → is_merged (cond b merged (halves (layout n (m % 2 ^ (2 ^ n))) (layout n (m / 2 ^ (2 ^ n))))) ≡ b
    go true = refl
    go false = refl

pub above_slot : (n m : ℕ) → is_merged (layout n m) ≡ false → 0 < n
unfolding layout is_merged
above_slot zero m e = absurd (true≢false e)
above_slot (suc n) m e = omega arith

own_clear : (n m : ℕ) → is_merged (layout (suc n) m) ≡ false → bit m (2 ^ n - 1) ≡ false
own_clear n m e = rw (sub-one (suc n)) at (sym (own_bit_lem (suc n) m (omega arith)) ∙ e)

pub layout_suc : (n m : ℕ) → is_merged (layout (suc n) m) ≡ false → layout (suc n) m ≡ halves (layout n (m % 2 ^ (2 ^ n))) (layout n (m / 2 ^ (2 ^ n)))
unfolding layout
layout_suc n m e = rw (own_clear n m e)

pub layout_apart : {A : Type 0} (f : (n : ℕ) → Layout n → A) (n m : ℕ) → is_merged (layout n m) ≡ false
    → f n (layout n m) ≡ f (suc (n - 1)) (halves (layout (n - 1) (m % 2 ^ (2 ^ (n - 1)))) (layout (n - 1) (m / 2 ^ (2 ^ (n - 1)))))
layout_apart f zero m e = absurd (omega (arith, above_slot zero m e))
layout_apart f (suc n) m e = rw (sub-one (suc n)) (ap (f (suc n)) (layout_suc n m e))

-- valid bits of a block that is not merged are valid in both halves
pub valid_apart : (n m : ℕ) → is_merged (layout n m) ≡ false → valid n m ≡ true
    → (valid (n - 1) (m % 2 ^ (2 ^ (n - 1))) ≡ true) × (valid (n - 1) (m / 2 ^ (2 ^ (n - 1))) ≡ true)
valid_apart zero m e v = absurd (omega (arith, above_slot zero m e))
valid_apart (suc n) m e v = rw (sub-one (suc n)) (valid_halves n m v (own_clear n m e))

pub valid_all : (n m : ℕ) → m ≡ ones n → valid n m ≡ true
unfolding marks
valid_all n m e = ap (valid n) e ∙ valid_marks {n = n} merged

pub valid_more : (n m : ℕ) → 0 < n → (m ≡ ones n → ⊥)
    → valid n m ≡ (valid (n - 1) (m % 2 ^ (2 ^ (n - 1))) && valid (n - 1) (m / 2 ^ (2 ^ (n - 1))))
unfolding valid
valid_more zero m h k = absurd (omega arith)
valid_more (suc n) m h k = rw (ne_eqb m (ones (suc n)) k, sub-one (suc n))
