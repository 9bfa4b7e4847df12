-- Levels by merge bits, by induction on the level: the own bit of a block is set where the block is merged or inside a merged one. So
-- the merged blocks around a slot are as many as the level of its counter, and the levels with a merged block as many as the widest.
use mathlib.Core.Path.{◌≡◌, refl, sym, ap, ap₂, ◌∙◌}
use mathlib.Core.Bool.{true, cond}
use Prim.Native.Nat.{ℕ, zero, suc, ◌+◌, ◌-◌, ◌*◌, ◌/◌, ◌%◌, ◌^◌, ◌≤◌, ◌<◌, min, max}
use native.Mathlib.Nat.{add-zero, add-suc, add-mul, suc-mul, mul-div_cancel, mul-le-mul_right, div-eq_of_lt, mul-add-div_right, div-mul-le_self}
use native.Mathlib.Decide.{dec_lt}
use native.Mathlib.Omega.{arith}
use borrow.Author.Tests.{lt-ltb, le-ltb, eqb-false}
use lib.Dec.{ltb}
use lib.Pow.{pow_pos}
use Rattle.group_layout.specs.Layout.{Layout, merged, halves, bit, ones, marks, layout, valid, widest_in, level_of}
use Rattle.group_layout.proofs.Laws.{marks_in, bit_halves, marks_layout, widest_le, level_le}
use Rattle.group_block.specs.Block.{block, counter_at}
use Rattle.group_slots.proofs.Bits.{ones_bit, low_bit, high_bit}
use Rattle.group_slots.proofs.Slots.{level_block}
use Rattle.group_slots.proofs.Twins.{multiple, whole_left}
use Rattle.group_levels.specs.Levels.{own_bit, merged_around, some_own, merged_levels}

-- 1 for a level above j, else 0
abbrev over : ℕ → ℕ → ℕ
over j l = cond (ltb j l) 1 0

over_yes : (j l : ℕ) → j < l → over j l ≡ 1
over_yes j l h = rw (lt-ltb j l h)

over_no : (j l : ℕ) → l ≤ j → over j l ≡ 0
over_no j l h = rw (le-ltb j l h)

-- counted over the levels up to i
over_more : (i l : ℕ) → min i l + over i l ≡ min (suc i) l
over_more i l = elim (dec_lt i l) [
  | yes h ↦ omega (arith, over_yes i l h)
  | no h ↦ omega (arith, over_no i l (omega arith))
]

over_max : (j a b : ℕ) → max (over j a) (over j b) ≡ over j (max a b)
over_max j a b = elim (dec_lt j a) [
  | yes h ↦ elim (dec_lt j b) [
    | yes k ↦ omega (arith, over_yes j a h, over_yes j b k, over_yes j (max a b) (omega arith))
    | no k ↦ omega (arith, over_yes j a h, over_no j b (omega arith), over_yes j (max a b) (omega arith))
  ]
  | no h ↦ elim (dec_lt j b) [
    | yes k ↦ omega (arith, over_no j a (omega arith), over_yes j b k, over_yes j (max a b) (omega arith))
    | no k ↦ omega (arith, over_no j a (omega arith), over_no j b (omega arith), over_no j (max a b) (omega arith))
  ]
]

-- The own bit of block i of level j + 1.
own_le : (j m i : ℕ) → own_bit j m i ≤ 1
unfolding own_bit
own_le j m i = omega arith

-- where all bits are set
own_ones : (n j i : ℕ) → i * 2 ^ suc j + 2 ^ suc j ≤ 2 ^ n → own_bit j (ones n) i ≡ 1
unfolding own_bit ones
own_ones n j i h = ones_bit (2 ^ n - 1) (i * 2 ^ suc j + (2 ^ j - 1)) (omega (arith, pow_pos j))

-- in the left half of a block and in the right one
module _ (n j i a b : ℕ) where
  own_left : i * 2 ^ suc j + 2 ^ suc j ≤ 2 ^ n → own_bit j (a * 2 ^ (2 ^ n) + b) i ≡ own_bit j b i
  unfolding own_bit
  own_left h = low_bit a b (2 ^ n) (i * 2 ^ suc j + (2 ^ j - 1)) (omega (arith, pow_pos j))

  own_right : b < 2 ^ (2 ^ n) → j < n → own_bit j (a * 2 ^ (2 ^ n) + b) (2 ^ (n - suc j) + i) ≡ own_bit j a i
  unfolding own_bit
  own_right h g =
      let p = i * 2 ^ suc j + (2 ^ j - 1) in
      let e : (2 ^ (n - suc j) + i) * 2 ^ suc j + (2 ^ j - 1) ≡ 2 ^ n + p = omega (arith, add-mul (2 ^ (n - suc j)) i (2 ^ suc j), multiple n j g) in
      ap (λ (x : ℕ). (a * 2 ^ (2 ^ n) + b) / 2 ^ x % 2) e ∙ high_bit a b (2 ^ n) p h

-- of the block itself, where it is not merged
own_split : {n : ℕ} (l r : Layout n) → own_bit n (marks (halves l r)) 0 ≡ 0
unfolding own_bit marks bit
own_split {n} l r =
    let m = marks r * 2 ^ (2 ^ n) + marks l in
    let z : 0 * 2 ^ suc n + (2 ^ n - 1) ≡ 2 ^ n - 1 = omega arith in
    ap (λ (x : ℕ). m / 2 ^ x % 2) z ∙ omega (arith, eqb-false (m / 2 ^ (2 ^ n - 1) % 2) 1 (bit_halves l r))

-- the level of a slot's counter, in each half
level_left : {n : ℕ} (l r : Layout n) (k : ℕ) → k < 2 ^ n → level_of (halves l r) k ≡ level_of l k
unfolding level_of
level_left {n} l r k h = rw (lt-ltb k (2 ^ n) h)

level_right : {n : ℕ} (l r : Layout n) (k : ℕ) → 2 ^ n ≤ k → level_of (halves l r) k ≡ level_of r (k - 2 ^ n)
unfolding level_of
level_right {n} l r k h = rw (le-ltb k (2 ^ n) h)

below_split : {n : ℕ} (l r : Layout n) (k : ℕ) → level_of (halves l r) k ≤ n
below_split {n} l r k = elim (dec_lt k (2 ^ n)) [
  | yes h ↦ rw (level_left l r k h) (level_le l k)
  | no h ↦ rw (level_right l r k (omega arith)) (level_le r (k - 2 ^ n))
]

-- the block of level j + 1 around slot k is merged, or inside a merged one, if the slot's counter has a higher level than j
pub own_around : {n : ℕ} (L : Layout n) (j k : ℕ) → j < n → k < 2 ^ n → own_bit j (marks L) (k / 2 ^ suc j) ≡ over j (level_of L k)
unfolding marks level_of
own_around {n} merged j k g h =
    own_ones n j (k / 2 ^ suc j) (whole_left n j (k / 2 ^ suc j) k g (div-mul-le_self k (2 ^ suc j)) h) ∙ sym (over_yes j n g)
own_around (halves {n} l r) j k g h = elim (dec_lt j n) [
  | no i ↦
      let e : j ≡ n = omega arith in
      rw (e, div-eq_of_lt {n = k} {m = 2 ^ suc n} h) (own_split l r ∙ sym (over_no n (level_of (halves l r) k) (below_split l r k)))
  | yes i ↦ elim (dec_lt k (2 ^ n)) [
    | yes m ↦
        own_left n j (k / 2 ^ suc j) (marks r) (marks l) (whole_left n j (k / 2 ^ suc j) k i (div-mul-le_self k (2 ^ suc j)) m)
        ∙ own_around l j k i m
        ∙ ap (over j) (sym (level_left l r k m))
    | no m' ↦
        let m : 2 ^ n ≤ k = omega arith in
        let e : k / 2 ^ suc j ≡ 2 ^ (n - suc j) + (k - 2 ^ n) / 2 ^ suc j =
        ap (λ (x : ℕ). x / 2 ^ suc j) (omega (arith, multiple n j i)) ∙ mul-add-div_right (pow_pos (suc j)) (2 ^ (n - suc j)) (k - 2 ^ n) in
        ap (own_bit j (marks r * 2 ^ (2 ^ n) + marks l)) e
        ∙ own_right n j ((k - 2 ^ n) / 2 ^ suc j) (marks r) (marks l) (marks_in l) i
        ∙ own_around r j (k - 2 ^ n) i (omega arith)
        ∙ ap (over j) (sym (level_right l r k m))
  ]
]

-- A slot's level is the number of merged blocks around it.
around_up : {n : ℕ} (L : Layout n) (k i : ℕ) → k < 2 ^ n → i ≤ n → merged_around i (marks L) k ≡ min i (level_of L k)
unfolding merged_around
around_up L k zero h g = omega arith
around_up L k (suc i) h g = omega (arith, around_up L k i h (omega arith), own_around L i k g h, over_more i (level_of L k))

pub level_around : {n : ℕ} (L : Layout n) (k : ℕ) → k < 2 ^ n → merged_around n (marks L) k ≡ level_of L k
level_around {n} L k h = omega (arith, around_up L k n h (omega arith), level_le L k)

-- the same of valid merge bits, and of the block that they stand for with count bytes
pub level_valid : (n m k : ℕ) → valid n m ≡ true → k < 2 ^ n → level_of (layout n m) k ≡ merged_around n m k
level_valid n m k v h = sym (rw (marks_layout n m v) at (level_around (layout n m) k h))

pub counter_level : (n w m k : ℕ) → valid n m ≡ true → k < 2 ^ n → (counter_at (block n w m) k).level ≡ merged_around n m k
counter_level n w m k v h = level_block n w m k ∙ level_valid n m k v h

pub around_le : (n m k : ℕ) → merged_around n m k ≤ n
unfolding merged_around
around_le zero m k = omega arith
around_le (suc n) m k = omega (arith, around_le n m k, own_le n m (k / 2 ^ suc n))

-- Whether some block of a level is merged.
some_le : (j m c : ℕ) → some_own j m c ≤ 1
unfolding some_own
some_le j m zero = omega arith
some_le j m (suc c) = omega (arith, some_le j m c, own_le j m c)

some_ones : (n j : ℕ) → j < n → some_own j (ones n) (2 ^ (n - suc j)) ≡ 1
unfolding some_own
some_ones n j g =
    let c = 2 ^ (n - suc j) - 1 in
    let e : 2 ^ (n - suc j) ≡ suc c = omega (arith, pow_pos (n - suc j)) in
    let last : c * 2 ^ suc j + 2 ^ suc j ≤ 2 ^ n = omega (arith, multiple n j g, ap (λ (x : ℕ). x * 2 ^ suc j) e, suc-mul c (2 ^ suc j)) in
    ap (some_own j (ones n)) e ∙ omega (arith, some_le j (ones n) c, own_ones n j c last)

-- in two halves
module _ (n j a b : ℕ) (g : j < n) where
  some_left : (c : ℕ) → c ≤ 2 ^ (n - suc j) → some_own j (a * 2 ^ (2 ^ n) + b) c ≡ some_own j b c
  unfolding some_own
  some_left zero h = refl
  some_left (suc c) h =
      let last : c * 2 ^ suc j + 2 ^ suc j ≤ 2 ^ n = omega (arith, multiple n j g, mul-le-mul_right {m = suc c} {n = 2 ^ (n - suc j)} (2 ^ suc j) h, suc-mul c (2 ^ suc j)) in
      ap₂ max (some_left c (omega arith)) (own_left n j c a b last)

  some_right : b < 2 ^ (2 ^ n) → (c : ℕ)
      → some_own j (a * 2 ^ (2 ^ n) + b) (2 ^ (n - suc j) + c) ≡ max (some_own j (a * 2 ^ (2 ^ n) + b) (2 ^ (n - suc j))) (some_own j a c)
  unfolding some_own
  some_right h zero = rw (add-zero (2 ^ (n - suc j))) (omega arith)
  some_right h (suc c) = rw (add-suc (2 ^ (n - suc j)) c) (omega (arith, some_right h c, own_right n j c a b h g))

  some_both : b < 2 ^ (2 ^ n) → some_own j (a * 2 ^ (2 ^ n) + b) (2 ^ (suc n - suc j)) ≡ max (some_own j b (2 ^ (n - suc j))) (some_own j a (2 ^ (n - suc j)))
  some_both h =
      let e : suc n - suc j ≡ suc (n - suc j) = omega arith in
      let f : 2 ^ suc (n - suc j) ≡ 2 ^ (n - suc j) + 2 ^ (n - suc j) = omega arith in
      rw (e, f) (omega (arith, some_right h (2 ^ (n - suc j)), some_left (2 ^ (n - suc j)) (omega arith)))

some_split : {n : ℕ} (l r : Layout n) → some_own n (marks (halves l r)) 1 ≡ 0
unfolding some_own
some_split l r = omega (arith, own_split l r)

-- some block of level j + 1 is merged, or inside a merged one, if the widest level is higher than j
pub some_widest : {n : ℕ} (L : Layout n) (j : ℕ) → j < n → some_own j (marks L) (2 ^ (n - suc j)) ≡ over j (widest_in L)
unfolding marks widest_in
some_widest {n} merged j g = some_ones n j g ∙ sym (over_yes j n g)
some_widest (halves {n} l r) j g = elim (dec_lt j n) [
  | yes i ↦ some_both n j (marks r) (marks l) i (marks_in l) ∙ ap₂ max (some_widest l j i) (some_widest r j i) ∙ over_max j (widest_in l) (widest_in r)
  | no i ↦
      let e : j ≡ n = omega arith in
      let f : suc n - suc n ≡ 0 = omega arith in
      rw (e, f) (some_split l r ∙ sym (over_no n (max (widest_in l) (widest_in r)) (omega (arith, widest_le l, widest_le r))))
]

-- The widest level is the number of levels with a merged block.
levels_up : {n : ℕ} (L : Layout n) (i : ℕ) → i ≤ n → merged_levels n (marks L) i ≡ min i (widest_in L)
unfolding merged_levels
levels_up L zero g = omega arith
levels_up L (suc i) g = omega (arith, levels_up L i (omega arith), some_widest L i g, over_more i (widest_in L))

pub widest_levels : {n : ℕ} (L : Layout n) → merged_levels n (marks L) n ≡ widest_in L
widest_levels {n} L = omega (arith, levels_up L n (omega arith), widest_le L)

pub widest_valid : (n m : ℕ) → valid n m ≡ true → widest_in (layout n m) ≡ merged_levels n m n
widest_valid n m v = sym (rw (marks_layout n m v) at (widest_levels (layout n m)))

pub levels_le : (n m i : ℕ) → merged_levels n m i ≤ i
unfolding merged_levels
levels_le n m zero = omega arith
levels_le n m (suc i) = omega (arith, levels_le n m i, some_le i m (2 ^ (n - suc i)))

-- The own bit is clear of a block whose first slot is in a counter of the level below.
pub own_clear : {n : ℕ} (L : Layout n) (j i : ℕ) → j < n → i * 2 ^ suc j < 2 ^ n → level_of L (i * 2 ^ suc j) ≡ j → own_bit j (marks L) i ≡ 0
own_clear L j i g h e =
    ap (own_bit j (marks L)) (sym (mul-div_cancel i (pow_pos (suc j))))
    ∙ own_around L j (i * 2 ^ suc j) g h
    ∙ over_no j (level_of L (i * 2 ^ suc j)) (omega arith)
