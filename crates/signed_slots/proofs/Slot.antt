-- The sum of two slots: a byte each, sign and magnitude.
use mathlib.Core.Path.{◌≡◌, refl, sym, ap, ap₂, ◌∙◌}
use mathlib.Core.Bool.{Bool, true, false, cond, not}
use Prim.Native.Nat.{ℕ, suc, ◌+◌, ◌-◌, ◌*◌, ◌/◌, ◌%◌, ◌≤◌, ◌<◌}
use native.Mathlib.Decide.{dec_lt}
use native.Mathlib.Omega.{arith}
use borrow.Author.Tests.{lt-ltb, le-ltb}
use lib.Bits.{bit_and, bit_or, bit_xor, and_mask, and_zero_l, and_zero_r, or_zero_r, or_shifted_r, xor_zero_r, xor_self, xor_add_and}
use lib.IntN.{ℤ, pos, ◌+ℤ◌, neg_ℤ, nat_abs}
use Rattle.signed_number.specs.Number.{times_sign, integer}
use Rattle.signed_number.proofs.Integers.{abs_integer, times_plus, sum_parts}
use Rattle.signed_block.specs.Signed.{top, sign_bits, sign_read}
use Rattle.signed_block.proofs.Counters.{bits_neg}
use Rattle.signed_slots.specs.Slots.{signs, magnitudes, folded, apart, total, past, size, minus, sums, over}
use Rattle.signed_slots.proofs.Lanes.{signs_is, magnitudes_is, size_le}

-- a slot's value by its sign and its magnitude
read_is : (w : ℕ) (s : Bool) → w / 128 ≡ cond s 1 0 → sign_read 0 w ≡ integer s (w % 128)
unfolding sign_read top times_sign
read_is w true e =
    let m : w - 128 ≡ w % 128 = omega arith in
    rw (le-ltb w 128 (omega arith), m)
read_is w false e =
    let m : w % 128 ≡ w = omega arith in
    rw (lt-ltb w 128 (omega arith), m)

-- a slot by a sign and a magnitude: zero is plus
coded : ℕ → ℕ → ℕ
coded p m = bit_or m (bit_and p ((m + 127) / 128) * 128)

slot_plus : (m : ℕ) → m < 128 → coded 0 m ≡ sign_bits 0 (pos m)
unfolding coded sign_bits
slot_plus m h = rw (and_zero_l ((m + 127) / 128)) (or_zero_r m)

slot_minus : (m : ℕ) → m < 128 → coded 1 m ≡ sign_bits 0 (neg_ℤ (pos m))
unfolding coded top sign_bits
slot_minus m h = elim (dec_lt 0 m) [
  | yes l ↦
      let z : (m + 127) / 128 ≡ 1 = omega arith in
      rw z (or_shifted_r 1 7 m h ∙ sym (bits_neg 0 m l))
  | no l ↦ let z : m ≡ 0 = omega arith in rw z
]

coded_is : (s : Bool) (m : ℕ) → m < 128 → coded (cond s 1 0) m ≡ sign_bits 0 (integer s m)
unfolding times_sign
coded_is true m h = slot_minus m h
coded_is false m h = slot_plus m h

fold_none : (w : ℕ) → folded 0 w ≡ w
unfolding folded
fold_none w = omega (arith, xor_zero_r w)

fold_one : (w : ℕ) → w < 128 → folded 1 w ≡ 128 - w
unfolding folded
fold_one w h = omega (arith, xor_add_and w 127, and_mask w 7)

-- sums by sign and magnitude
same_sign : (s : Bool) (a b : ℕ) → integer s a +ℤ integer s b ≡ integer s (a + b)
same_sign s a b = sym (times_plus s (pos a) (pos b))

larger : (s : Bool) (a b : ℕ) → b ≤ a → integer s a +ℤ integer (not s) b ≡ integer s (a - b)
larger true a b h = sym (rw (le-ltb a b h) at (sum_parts true false a b))
larger false a b h = sym (rw (le-ltb a b h) at (sum_parts false true a b))

smaller : (s : Bool) (a b : ℕ) → a < b → integer s a +ℤ integer (not s) b ≡ integer (not s) (b - a)
smaller true a b h = let e : suc (b - suc a) ≡ b - a = omega arith in sym (rw (lt-ltb a b h, e) at (sum_parts true false a b))
smaller false a b h = let e : suc (b - suc a) ≡ b - a = omega arith in sym (rw (lt-ltb a b h, e) at (sum_parts false true a b))

flags_apart : (s : Bool) → bit_xor (cond s 1 0) (cond (not s) 1 0) ≡ 1
flags_apart true = refl
flags_apart false = refl

flag_turned : (s : Bool) → bit_xor (cond s 1 0) 1 ≡ cond (not s) 1 0
flag_turned true = refl
flag_turned false = refl

-- a sum, by its sign and its magnitude, and its slot
record Sum (x y : ℕ) : Type 0 where
  sign : Bool
  magnitude : ℕ
  small : magnitude < 128
  value : sign_read 0 x +ℤ sign_read 0 y ≡ integer sign magnitude
  slot : sums 1 127 x y ≡ coded (cond sign 1 0) magnitude

module _ (x y : ℕ) (h : x < 256) (k : y < 256) where
  abbrev m : ℕ
  m = x % 128

  abbrev n : ℕ
  n = y % 128

  sums_coded : sums 1 127 x y ≡ coded (bit_xor (signs 1 x) (past 1 127 x y)) (size 1 127 x y)
  unfolding sums minus coded
  sums_coded = rw (signs_is (size 1 127 x y + 127) (omega (arith, size_le x y)))

  -- of one sign
  module _ (a : apart 1 x y ≡ 0) where
    same_total : total 1 127 x y ≡ m + n
    unfolding total
    same_total = rw (a, fold_none (magnitudes 127 y), magnitudes_is x, magnitudes_is y)

    same_over : over 1 127 x y ≡ (m + n) / 128
    unfolding over
    same_over =
        let t : signs 1 (total 1 127 x y) ≡ (m + n) / 128 = rw same_total (signs_is (m + n) (omega arith)) in
        rw (t, a) (omega (arith, and_mask ((m + n) / 128) 1))

    same_past : past 1 127 x y ≡ 0
    unfolding past
    same_past = rw a (and_zero_l (bit_xor (signs 1 (total 1 127 x y)) 1))

    same_size : m + n < 128 → size 1 127 x y ≡ m + n
    unfolding size
    same_size l = rw (same_past, fold_none (magnitudes 127 (total 1 127 x y)), magnitudes_is (total 1 127 x y), same_total) (omega arith)

  -- of two signs
  module _ (a : apart 1 x y ≡ 1) where
    other_total : total 1 127 x y ≡ m + (128 - n)
    unfolding total
    other_total = rw (a, magnitudes_is x, magnitudes_is y, fold_one n (omega arith))

    other_over : over 1 127 x y ≡ 0
    unfolding over
    other_over = rw a (and_zero_r (signs 1 (total 1 127 x y)))

    above : signs 1 (total 1 127 x y) ≡ (m + (128 - n)) / 128
    above = rw other_total (signs_is (m + (128 - n)) (omega arith))

    large_past : n ≤ m → past 1 127 x y ≡ 0
    unfolding past
    large_past l = let e : (m + (128 - n)) / 128 ≡ 1 = omega arith in rw (a, above, e)

    large_size : n ≤ m → size 1 127 x y ≡ m - n
    unfolding size
    large_size l = rw (large_past l, fold_none (magnitudes 127 (total 1 127 x y)), magnitudes_is (total 1 127 x y), other_total) (omega arith)

    small_past : m < n → past 1 127 x y ≡ 1
    unfolding past
    small_past l = let e : (m + (128 - n)) / 128 ≡ 0 = omega arith in rw (a, above, e)

    small_size : m < n → size 1 127 x y ≡ n - m
    unfolding size
    small_size l =
        let e : (m + (128 - n)) % 128 ≡ 128 - (n - m) = omega arith in
        rw (small_past l, magnitudes_is (total 1 127 x y), other_total, e, fold_one (128 - (n - m)) (omega arith)) (omega arith)

  -- by the signs
  module _ (s t : Bool) (e : x / 128 ≡ cond s 1 0) (f : y / 128 ≡ cond t 1 0) where
    apart_is : apart 1 x y ≡ bit_xor (cond s 1 0) (cond t 1 0)
    unfolding apart
    apart_is = rw (signs_is x h, signs_is y k, e, f)

    first_is : signs 1 x ≡ cond s 1 0
    first_is = signs_is x h ∙ e

    value_is : sign_read 0 x +ℤ sign_read 0 y ≡ integer s m +ℤ integer t n
    value_is = ap₂ (λ (u v : ℤ). u +ℤ v) (read_is x s e) (read_is y t f)

  same_apart : (s : Bool) → x / 128 ≡ cond s 1 0 → y / 128 ≡ cond s 1 0 → apart 1 x y ≡ 0
  same_apart s e f = apart_is s s e f ∙ xor_self (cond s 1 0)

  other_apart : (s : Bool) → x / 128 ≡ cond s 1 0 → y / 128 ≡ cond (not s) 1 0 → apart 1 x y ≡ 1
  other_apart s e f = apart_is s (not s) e f ∙ flags_apart s

  one_sign : (s : Bool) → x / 128 ≡ cond s 1 0 → y / 128 ≡ cond s 1 0 → over 1 127 x y ≡ 0 → Sum x y
  one_sign s e f o =
      let a = same_apart s e f in
      let l : m + n < 128 = omega (arith, same_over a) in
      record {
        sign = s;
        magnitude = m + n;
        small = l;
        value = value_is s s e f ∙ same_sign s m n;
        slot = sums_coded ∙ rw (same_past a, same_size a l, first_is s s e f, xor_zero_r (cond s 1 0));
      }

  two_signs : (s : Bool) → x / 128 ≡ cond s 1 0 → y / 128 ≡ cond (not s) 1 0 → Sum x y
  two_signs s e f =
      let a = other_apart s e f in
      elim (dec_lt m n) [
        | yes l ↦
            record {
              sign = not s;
              magnitude = n - m;
              small = omega arith;
              value = value_is s (not s) e f ∙ smaller s m n l;
              slot = sums_coded ∙ rw (small_past a l, small_size a l, first_is s (not s) e f, flag_turned s);
            }
        | no o ↦
            let l : n ≤ m = omega arith in
            record {
              sign = s;
              magnitude = m - n;
              small = omega arith;
              value = value_is s (not s) e f ∙ larger s m n l;
              slot = sums_coded ∙ rw (large_past a l, large_size a l, first_is s (not s) e f, xor_zero_r (cond s 1 0));
            }
      ]

  sum_is : over 1 127 x y ≡ 0 → Sum x y
  sum_is o = elim (dec_lt x 128) [
    | yes l ↦ elim (dec_lt y 128) [ yes p ↦ one_sign false (omega arith) (omega arith) o | no p ↦ two_signs false (omega arith) (omega arith) ]
    | no l ↦ elim (dec_lt y 128) [ yes p ↦ two_signs true (omega arith) (omega arith) | no p ↦ one_sign true (omega arith) (omega arith) o ]
  ]

  -- the slot holds the sum, and has its bits
  pub sum_held : over 1 127 x y ≡ 0
      → (nat_abs (sign_read 0 x +ℤ sign_read 0 y) < top 0) × (sums 1 127 x y ≡ sign_bits 0 (sign_read 0 x +ℤ sign_read 0 y))
  unfolding top
  sum_held o = let r = sum_is o in
      (rw (r.value, abs_integer r.sign r.magnitude) r.small, r.slot ∙ coded_is r.sign r.magnitude r.small ∙ ap (sign_bits 0) (sym r.value))

  -- a slot that is over does not: two signs never are
  one_over : (s : Bool) → x / 128 ≡ cond s 1 0 → y / 128 ≡ cond s 1 0 → (over 1 127 x y ≡ 0 → ⊥) → 128 ≤ nat_abs (sign_read 0 x +ℤ sign_read 0 y)
  one_over s e f o =
      let a = same_over (same_apart s e f) in
      let l : 128 ≤ m + n = elim (dec_lt (m + n) 128) [ yes l ↦ absurd (o (omega arith)) | no l ↦ omega arith ] in
      rw (value_is s s e f, same_sign s m n, abs_integer s (m + n)) l

  pub sum_over : (over 1 127 x y ≡ 0 → ⊥) → top 0 ≤ nat_abs (sign_read 0 x +ℤ sign_read 0 y)
  unfolding top
  sum_over o = elim (dec_lt x 128) [
    | yes l ↦ elim (dec_lt y 128) [
      | yes p ↦ one_over false (omega arith) (omega arith) o
      | no p ↦ absurd (o (other_over (other_apart false (omega arith) (omega arith))))
    ]
    | no l ↦ elim (dec_lt y 128) [
      | yes p ↦ absurd (o (other_over (other_apart true (omega arith) (omega arith))))
      | no p ↦ one_over true (omega arith) (omega arith) o
    ]
  ]
