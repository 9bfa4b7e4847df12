-- Two blocks of one layout united where no counter's sum is too large: the number of the union is the sum of their numbers. That no
-- sum leaves its counter is seen in the carries between counters. For any level.
use mathlib.Core.Path.{◌≡◌, refl, sym, ap, ◌∙◌}
use mathlib.Core.Bool.{true, ◌&&◌, and-eq-true_iff, true≢false}
use Prim.Native.Nat.{ℕ, suc, ◌+◌, ◌-◌, ◌*◌, ◌/◌, ◌%◌, ◌^◌, ◌≤◌, ◌<◌, min}
use native.Mathlib.Nat.{add-mul, mod-lt, zero-div, zero-mod, div-add-mod', zero-mul, one-mul, mod-eq_of_lt}
use native.Mathlib.Decide.{dec_lt}
use native.Mathlib.Omega.{arith}
use borrow.Author.Tests.{lt-ltb, eqb-true, eq-eqb}
use lib.Arith.{digits_lt, digits_div, digits_mod}
use lib.Bits.{bit_and, bit_xor, and_step, and_zero_r, and_le_l, and_block, xor_lt, xor_add_and, and_shr, and_mod, xor_shr, xor_mod, shifted_even}
use lib.Dec.{eqb}
use lib.Pow.{pow_pos, pow-lt}
use Rattle.group_layout.specs.Layout.{Layout, merged, halves, marks, layout, valid}
use Rattle.group_layout.proofs.Laws.{layout_marks, marks_layout}
use Rattle.group_block.specs.Kind.{ordinary}
use Rattle.group_block.specs.Block.{cap, shape, fill, block, total, block_as}
use Rattle.group_block.specs.Sum.{Sum, fits, over, held, join, unite}
use Rattle.group_block.specs.Passed.{Sane}
use Rattle.group_union.specs.Passed.{keeps}
use Rattle.group_block_laws.specs.Least.{Suits, Least}
use Rattle.group_block.proofs.Laws.{cap_square, high_lt, shape_fill}
use Rattle.group_block_laws.proofs.Least.{unite_least}
use Rattle.group_slots.proofs.Gaps.{bounds}

cap_above : (n : ℕ) → 1 < cap n
unfolding cap
cap_above n = pow-lt {i = 0} {j = 8 * 2 ^ n} (omega (arith, pow_pos n))

bounds_lt : {n : ℕ} (L : Layout n) → 1 + bounds L < cap n
unfolding bounds
bounds_lt {n} merged = cap_above n
bounds_lt (halves {n} l r) = rw (cap_square n) (omega (arith, digits_lt (bounds_lt r) (bounds_lt l)))

bounds_even : {n : ℕ} (L : Layout n) → bounds L % 2 ≡ 0
unfolding bounds cap
bounds_even merged = refl
bounds_even (halves {n} l r) =
    let e : 8 * 2 ^ n ≡ suc (8 * 2 ^ n - 1) = omega (arith, pow_pos n) in
    rw e (omega (arith, bounds_even l, shifted_even (1 + bounds r) (8 * 2 ^ n - 1)))

-- the carries of a sum
abbrev pub carries : ℕ → ℕ → ℕ
carries a b = bit_xor (bit_xor a b) (a + b)

-- what an odd mask takes: the lowest bit and what the rest of the mask takes
odd_mask : (y r : ℕ) → r % 2 ≡ 0 → bit_and y (1 + r) ≡ bit_and y r + y % 2
odd_mask y r e =
    let half : (1 + r) / 2 ≡ r / 2 = omega arith in
    let s : bit_and y (1 + r) ≡ bit_and (y / 2) (r / 2) * 2 + min (y % 2) ((1 + r) % 2) = rw half at (and_step y (1 + r)) in
    omega (arith, and_step y r)

carries_even : (a b : ℕ) → carries a b % 2 ≡ 0
carries_even a b = omega (arith, xor_add_and (bit_xor a b) (a + b), xor_add_and a b)

-- the sum of two numbers by parts of k bits
module _ (k a b : ℕ) where
  abbrev lows : ℕ
  lows = a % 2 ^ k + b % 2 ^ k

  abbrev highs : ℕ
  highs = a / 2 ^ k + b / 2 ^ k

  sum_parts : a + b ≡ highs * 2 ^ k + lows
  sum_parts = omega (arith, add-mul (a / 2 ^ k) (b / 2 ^ k) (2 ^ k), div-add-mod' a (2 ^ k), div-add-mod' b (2 ^ k))

  carried : 2 ^ k ≤ lows → (a + b) / 2 ^ k ≡ highs + 1
  carried h =
      let e : a + b ≡ (highs + 1) * 2 ^ k + (lows - 2 ^ k) = omega (arith, sum_parts, add-mul highs 1 (2 ^ k), one-mul (2 ^ k)) in
      rw e (digits_div (highs + 1) (omega (arith, mod-lt a (pow_pos k), mod-lt b (pow_pos k))))

  high_of : lows < 2 ^ k → (a + b) / 2 ^ k ≡ highs
  high_of h = rw sum_parts (digits_div highs h)

  low_of : lows < 2 ^ k → (a + b) % 2 ^ k ≡ lows
  low_of h = rw sum_parts (digits_mod highs h)

  -- the carries of the sum, by parts
  carries_high : carries a b / 2 ^ k ≡ bit_xor (bit_xor (a / 2 ^ k) (b / 2 ^ k)) ((a + b) / 2 ^ k)
  carries_high = rw (xor_shr (bit_xor a b) (a + b) k, xor_shr a b k)

  carries_low : carries a b % 2 ^ k ≡ bit_xor (bit_xor (a % 2 ^ k) (b % 2 ^ k)) ((a + b) % 2 ^ k)
  carries_low = rw (xor_mod (bit_xor a b) (a + b) k, xor_mod a b k)

  carries_parts : lows < 2 ^ k → carries a b ≡ carries (a / 2 ^ k) (b / 2 ^ k) * 2 ^ k + carries (a % 2 ^ k) (b % 2 ^ k)
  carries_parts h = sym (rw (carries_high, carries_low, high_of h, low_of h) at (div-add-mod' (carries a b) (2 ^ k)))

  module _ (r l : ℕ) (r-even : r % 2 ≡ 0) (l_lt : l < 2 ^ k) (none : bit_and (carries a b) ((1 + r) * 2 ^ k + l) ≡ 0) where
    none_high : (carries a b / 2 ^ k % 2 ≡ 0) × (bit_and (carries a b / 2 ^ k) r ≡ 0)
    none_high =
        let e : bit_and (carries a b / 2 ^ k) (1 + r) ≡ 0 =
        rw (← digits_div (1 + r) l_lt) (sym (and_shr (carries a b) ((1 + r) * 2 ^ k + l) k) ∙ ap (λ (x : ℕ). x / 2 ^ k) none ∙ zero-div (2 ^ k)) in
        (omega (arith, odd_mask (carries a b / 2 ^ k) r r-even), omega (arith, odd_mask (carries a b / 2 ^ k) r r-even))

    none_low : bit_and (carries a b % 2 ^ k) l ≡ 0
    none_low =
        rw (← digits_mod (1 + r) l_lt) (sym (and_mod (carries a b) ((1 + r) * 2 ^ k + l) k) ∙ ap (λ (x : ℕ). x % 2 ^ k) none ∙ zero-mod (2 ^ k))

    -- no carry into the high part
    pub lows_lt : lows < 2 ^ k
    lows_lt = elim (dec_lt lows (2 ^ k)) [
      | yes h ↦ h
      | no h ↦
          absurd
          (omega (
            arith,
            none_high.0,
            carries_high,
            carried (omega arith),
            xor_add_and (bit_xor (a / 2 ^ k) (b / 2 ^ k)) ((a + b) / 2 ^ k),
            xor_add_and (a / 2 ^ k) (b / 2 ^ k),
          ))
    ]

    pub high_is : (a + b) / 2 ^ k ≡ highs
    high_is = high_of lows_lt

    pub low_is : (a + b) % 2 ^ k ≡ lows
    low_is = low_of lows_lt

    pub high_none : bit_and (carries (a / 2 ^ k) (b / 2 ^ k)) r ≡ 0
    high_none = rw (← high_is, ← carries_high) none_high.1

    pub low_none : bit_and (carries (a % 2 ^ k) (b % 2 ^ k)) l ≡ 0
    low_none = rw (← low_is, ← carries_low) none_low

abbrev InPlace : {n : ℕ} → Layout n → Type 0
InPlace {n} L = (a b : ℕ) → a + b < cap n → bit_and (carries a b) (bounds L) ≡ 0 → unite (fill {K = ordinary} L a) (fill L b) ≡ fits (fill L (a + b))

in_halves : {n : ℕ} (l r : Layout n) → InPlace l → InPlace r → InPlace (halves l r)
unfolding unite fill join bounds cap
in_halves {n} l r p q a b h z =
    let k = 8 * 2 ^ n in
    let even = bounds_even r in
    let small : bounds l < 2 ^ k = omega (arith, bounds_lt l) in
    rw (
      p (a % 2 ^ k) (b % 2 ^ k) (lows_lt k a b (bounds r) (bounds l) even small z) (low_none k a b (bounds r) (bounds l) even small z),
      q (a / 2 ^ k) (b / 2 ^ k) (rw (high_is k a b (bounds r) (bounds l) even small z) at (high_lt n (a + b) h)) (high_none k a b (bounds r) (bounds l) even small z),
      low_is k a b (bounds r) (bounds l) even small z,
      high_is k a b (bounds r) (bounds l) even small z,
    )

pub unite_in_place : {n : ℕ} (L : Layout n) → InPlace L
unfolding unite fill total held
unite_in_place {n} merged = λ a b h z. rw (lt-ltb (a + b) (cap n) h)
unite_in_place (halves l r) = in_halves l r (unite_in_place l) (unite_in_place r)

-- Of numbers that the block holds: where nothing is carried out of its last counter either, their sum is such a number.
pub end_no_carry : {n : ℕ} (L : Layout n) (a b : ℕ) → a < cap n → b < cap n → bit_and (carries a b) (cap n + bounds L) ≡ 0
    → (a + b < cap n) × (bit_and (carries a b) (bounds L) ≡ 0)
unfolding cap
end_no_carry {n} L a b h k z =
    let j = 8 * 2 ^ n in
    let small : bounds L < 2 ^ j = omega (arith, bounds_lt L) in
    let none : bit_and (carries a b) ((1 + 0) * 2 ^ j + bounds L) ≡ 0 = rw (one-mul (2 ^ j)) z in
    let low : a % 2 ^ j ≡ a = mod-eq_of_lt {n = a} {m = 2 ^ j} h in
    let low' : b % 2 ^ j ≡ b = mod-eq_of_lt {n = b} {m = 2 ^ j} k in
    (rw (low, low') at (lows_lt j a b 0 (bounds L) refl small none), rw (low, low') at (low_none j a b 0 (bounds L) refl small none))

pub carries_lt : (k a b : ℕ) → a + b < 2 ^ k → carries a b < 2 ^ k
carries_lt k a b h = xor_lt k (bit_xor a b) (a + b) (xor_lt k a b (omega arith) (omega arith)) h

-- a mask's part above a number is of no effect
pub mask_mod : (k c s : ℕ) → c < 2 ^ k → bit_and c (s % 2 ^ k) ≡ bit_and c s
mask_mod k c s h =
    rw (mod-eq_of_lt {n = c} {m = 2 ^ k} h) at (sym (and_mod c s k))
    ∙ mod-eq_of_lt {n = bit_and c s} {m = 2 ^ k} (omega (arith, and_le_l c s))

pub no_carry_end : {n : ℕ} (L : Layout n) (a b : ℕ) → a + b < cap n → bit_and (carries a b) (bounds L) ≡ 0 → bit_and (carries a b) (cap n + bounds L) ≡ 0
unfolding cap
no_carry_end {n} L a b s z =
    let j = 8 * 2 ^ n in
    let low : (1 * 2 ^ j + bounds L) % 2 ^ j ≡ bounds L = digits_mod 1 (omega (arith, bounds_lt L)) in
    sym (mask_mod j (carries a b) (2 ^ j + bounds L) (carries_lt j a b s)) ∙ rw (rw (one-mul (2 ^ j)) at low) z

-- The other way: where the layout suits both blocks, nothing is carried.
suits_no_carry : {n : ℕ} (L : Layout n) (a b : ℕ) → a < cap n → b < cap n → Suits L (fill {K = ordinary} L a) (fill L b)
    → (a + b < cap n) × (bit_and (carries a b) (bounds L) ≡ 0)
unfolding Suits fill total bounds cap
suits_no_carry merged a b h k s = (s, and_zero_r (carries a b))
suits_no_carry (halves {n} l r) a b h k s =
    let j = 8 * 2 ^ n in
    let p = suits_no_carry l (a % 2 ^ j) (b % 2 ^ j) (mod-lt a (pow_pos j)) (mod-lt b (pow_pos j)) s.0 in
    let q = suits_no_carry r (a / 2 ^ j) (b / 2 ^ j) (high_lt n a h) (high_lt n b k) s.1 in
    let none : bit_and (carries (a / 2 ^ j) (b / 2 ^ j)) (1 + bounds r) ≡ 0 =
    omega (arith, odd_mask (carries (a / 2 ^ j) (b / 2 ^ j)) (bounds r) (bounds_even r), carries_even (a / 2 ^ j) (b / 2 ^ j), q.1) in
    let sum : a + b < 2 ^ (8 * 2 ^ suc n) = rw (sum_parts j a b, cap_square n) (digits_lt q.0 p.0) in
    let small : bounds l < 2 ^ j = omega (arith, bounds_lt l) in
    let low = carries (a % 2 ^ j) (b % 2 ^ j) in
    let parts = and_block j (carries (a / 2 ^ j) (b / 2 ^ j)) (1 + bounds r) low (bounds l) (carries_lt j (a % 2 ^ j) (b % 2 ^ j) p.0) small in
    (sum, rw (carries_parts j a b p.0, parts, none, p.1, zero-mul (2 ^ j)))

module _ (n a b m : ℕ) (v : valid n m ≡ true) (h : a < cap n) (k : b < cap n) where
  pub keeps_no_carry : keeps m (unite (block n a m) (block n b m)) ≡ true → (a + b < cap n) × (bit_and (carries a b) (bounds (layout n m)) ≡ 0)
  unfolding block_as Least
  keeps_no_carry = go (unite (fill (layout n m) a) (fill (layout n m) b)) (unite_least (fill (layout n m) a) (fill (layout n m) b))
    where
      go : (u : Sum n) → Least (fill (layout n m) a) (fill (layout n m) b) u → keeps m u ≡ true
          → (a + b < cap n) × (bit_and (carries a b) (bounds (layout n m)) ≡ 0)
      go (fits z) l e =
          let same : shape z ≡ layout n m = sym (layout_marks (shape z)) ∙ ap (layout n) (eqb-true (marks (shape z)) m e) in
          suits_no_carry (layout n m) a b h k (rw same at l.0)
      go (over t) l e = absurd (true≢false (sym e))

  pub no_carry_keeps : a + b < cap n → bit_and (carries a b) (bounds (layout n m)) ≡ 0 → keeps m (unite (block n a m) (block n b m)) ≡ true
  unfolding block_as
  no_carry_keeps s z = rw (unite_in_place (layout n m) a b s z, shape_fill (layout n m) (a + b), marks_layout n m v) (eq-eqb m m refl)

  keeps_unite : keeps m (unite (block n a m) (block n b m)) ≡ true → (a + b < cap n) × (unite (block n a m) (block n b m) ≡ fits (block n (a + b) m))
  unfolding block_as
  keeps_unite e = let s = keeps_no_carry e in (s.0, unite_in_place (layout n m) a b s.0 s.1)

-- what such a union is, where the merge bits are tested too
pub kept : (n a m b m' : ℕ) → Sane n a m → b < cap n → (eqb m m' && keeps m (unite (block n a m) (block n b m'))) ≡ true
    → (a + b < cap n) × (unite (block n a m) (block n b m') ≡ fits (block n (a + b) m))
kept n a m b m' s k e =
    let p = (and-eq-true_iff (eqb m m') (keeps m (unite (block n a m) (block n b m')))).0 e in
    let same : m ≡ m' = eqb-true m m' p.0 in
    rw (← same) (keeps_unite n a b m s.1 s.0 k (rw (← same) at p.1))
