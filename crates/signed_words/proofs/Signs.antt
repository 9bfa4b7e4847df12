-- The sign bits of a block's counters, which of them are of counters other than 0, whether a counter is minus zero, and every counter
-- with the other sign. By induction on the layout.
use mathlib.Core.Path.{◌≡◌, refl, sym, ap, ◌∙◌}
use mathlib.Core.Bool.{true, false, not, ◌&&◌, and-eq-true_iff, true≢false}
use Prim.Native.Nat.{ℕ, suc, ◌+◌, ◌-◌, ◌*◌, ◌/◌, ◌%◌, ◌^◌, ◌≤◌, ◌<◌}
use native.Mathlib.Nat.{add-mul, zero-mul, one-mul, mul-le-mul_right, mod-lt, mod-eq_of_lt, div-add-mod', div-eq_of_lt}
use native.Mathlib.Decide.{dec_lt}
use native.Mathlib.Omega.{arith}
use borrow.Author.Tests.{eq-eqb, ne_eqb, lt-ltb, le-ltb}
use lib.Arith.{digits_lt, digits_div, digits_mod}
use lib.Bits.{bit_and, bit_xor, and_mask, and_high, and_le_r, and_block, and_zero_l, and_zero_r, and_self, xor_add_and, xor_zero_l, xor_zero_r, xor_self, xor_block, xor_lt, xor_comm, xor_shifted}
use lib.Dec.{eqb}
use lib.IntN.{pos, neg_ℤ-neg_ℤ}
use lib.Pow.{pow_pos, pow-add}
use Rattle.group_layout.specs.Layout.{Layout, merged, halves, marks, layout, valid}
use Rattle.group_layout.proofs.Laws.{marks_layout, marks_lt}
use Rattle.group_block.specs.Block.{cap, fill, number_of, all_clean}
use Rattle.group_block.proofs.Laws.{cap_pos, cap_square, high_lt}
use Rattle.group_slots.proofs.Gaps.{bounds, gaps_bounds, spread_byte}
use Rattle.signed_number.specs.Number.{times_sign}
use Rattle.signed_block.specs.Signed.{top, sign_bits, sign_read, not_minus_zero, signed, times_block}
use Rattle.signed_block.proofs.Counters.{top_twice, top_pos, bits_neg}
use Rattle.signed_words.specs.Words.{tops, nonzero}

-- the mask of the code: where counters start, but for the first, and the block's end, half a place lower
tops_bounds : {n : ℕ} (L : Layout n) → tops L + tops L ≡ cap n + bounds L
unfolding tops bounds
tops_bounds {n} merged = omega (arith, top_twice n)
tops_bounds (halves {n} l r) =
    omega (
      arith,
      tops_bounds l,
      cap_square n,
      ap (λ (x : ℕ). x * cap n) (tops_bounds r),
      add-mul (tops r) (tops r) (cap n),
      add-mul (cap n) (bounds r) (cap n),
      add-mul 1 (bounds r) (cap n),
      one-mul (cap n),
    )

-- the last counter's sign bit is the block's highest bit
top_square : (n : ℕ) → top (suc n) ≡ top n * cap n
unfolding top cap
top_square n = ap (λ (k : ℕ). 2 ^ k) (omega (arith, pow_pos n)) ∙ pow-add 2 (8 * 2 ^ n - 1) (8 * 2 ^ n)

pub tops_high : {n : ℕ} (L : Layout n) → top n ≤ tops L
unfolding tops
tops_high {n} merged = omega arith
tops_high (halves {n} l r) = rw (top_square n) (omega (arith, mul-le-mul_right {m = top n} {n = tops r} (cap n) (tops_high r)))

pub tops_lt : {n : ℕ} (L : Layout n) → tops L < cap n
unfolding tops
tops_lt {n} merged = omega (arith, top_twice n, top_pos n)
tops_lt (halves {n} l r) = rw (cap_square n) (digits_lt (tops_lt r) (tops_lt l))

pub tops_mask : (m : ℕ) → valid 3 m ≡ true → bit_and (bit_xor 127 m * 4432676798593) 282578800148737 * 128 + 2 ^ 63 ≡ tops (layout 3 m)
unfolding cap
tops_mask m v =
    let is : marks (layout 3 m) ≡ m = marks_layout 3 m v in
    omega (arith, spread_byte m (omega (arith, is, marks_lt (layout 3 m))), rw is at (gaps_bounds (layout 3 m)), tops_bounds (layout 3 m))

-- the bits of magnitudes: all but the signs
abbrev rest : {n : ℕ} → Layout n → ℕ
rest {n} L = cap n - 1 - tops L

rest_halves : {n : ℕ} (l r : Layout n) → rest (halves l r) ≡ rest r * cap n + rest l
unfolding tops
rest_halves {n} l r =
    let e : cap n ≡ rest r + (1 + tops r) = omega (arith, tops_lt r) in
    omega (arith, tops_lt l, cap_square n, ap (λ (x : ℕ). x * cap n) e, add-mul (rest r) (1 + tops r) (cap n), add-mul 1 (tops r) (cap n), one-mul (cap n))

rest_lt : {n : ℕ} (L : Layout n) → rest L < top n
rest_lt {n} L = omega (arith, tops_high L, top_twice n, top_pos n)

pub turned_tops : {n : ℕ} (L : Layout n) → bit_xor (tops L) (cap n - 1) ≡ rest L
unfolding cap
turned_tops {n} L =
    let k = 8 * 2 ^ n in
    let lt : tops L < 2 ^ k = tops_lt L in
    omega (arith, xor_add_and (tops L) (2 ^ k - 1), and_mask (tops L) k, mod-eq_of_lt {n = tops L} {m = 2 ^ k} lt, pow_pos k)

-- one bit of a number, by the number's size
top_bit : (n x : ℕ) → bit_and x (top n) ≡ x / top n % 2 * top n
unfolding top
top_bit n x = let k = 8 * 2 ^ n - 1 in
    let one : 2 ^ (1 + k) - 2 ^ k ≡ 2 ^ k = omega (arith, pow-add 2 1 k) in
    rw one at (and_high x 1 k)

above_top : (n x : ℕ) → top n ≤ x → x < cap n → bit_and x (top n) ≡ top n
above_top n x h k =
    let e : x ≡ 1 * top n + (x - top n) = omega (arith, one-mul (top n)) in
    let q : x / top n ≡ 1 = ap (λ (y : ℕ). y / top n) e ∙ digits_div 1 {m = top n} {r = x - top n} (omega (arith, top_twice n)) in
    top_bit n x ∙ rw q (one-mul (top n))

below_top : (n x : ℕ) → x < top n → bit_and x (top n) ≡ 0
below_top n x h = top_bit n x ∙ rw (div-eq_of_lt {n = x} {m = top n} h) (zero-mul (top n))

-- numbers by their halves
and_halves : (n a b r s : ℕ) → r < cap n → s < cap n → bit_and (a * cap n + r) (b * cap n + s) ≡ bit_and a b * cap n + bit_and r s
unfolding cap
and_halves n a b r s h k = and_block (8 * 2 ^ n) a b r s h k

xor_halves : (n a b r s : ℕ) → r < cap n → s < cap n → bit_xor (a * cap n + r) (b * cap n + s) ≡ bit_xor a b * cap n + bit_xor r s
unfolding cap
xor_halves n a b r s h k = xor_block (8 * 2 ^ n) a b r s h k

xor_in : (n a b : ℕ) → a < cap n → b < cap n → bit_xor a b < cap n
unfolding cap
xor_in n a b h k = xor_lt (8 * 2 ^ n) a b h k

halves_of_lem : (n w : ℕ) → w ≡ w / cap n * cap n + w % cap n
halves_of_lem n w = sym (div-add-mod' w (cap n))

low_in : (n w : ℕ) → w % cap n < cap n
low_in n w = mod-lt w (cap_pos n)

-- the sign bits of counters other than 0, of one counter
low_bits : (n w : ℕ) → bit_and w (cap n - 1 - top n) ≡ w % top n
unfolding top
low_bits n w =
    let k = 8 * 2 ^ n - 1 in
    let e : cap n - 1 - top n ≡ 2 ^ k - 1 = omega (arith, top_twice n) in
    ap (bit_and w) e ∙ and_mask w k

zero_low : (n w : ℕ) → w % top n ≡ 0 → nonzero (merged {n = n}) w ≡ 0
unfolding nonzero
zero_low n w e = rw (eq-eqb (w % top n) 0 e)

other_low : (n w : ℕ) → 0 < w % top n → nonzero (merged {n = n}) w ≡ top n
unfolding nonzero
other_low n w h = rw (ne_eqb (w % top n) 0 (λ e. omega arith))

counter_nonzero : (n w : ℕ) → bit_and (w % top n + (cap n - 1 - top n)) (top n) ≡ nonzero (merged {n = n}) w
counter_nonzero n w = elim (dec_lt 0 (w % top n)) [
  | yes h ↦
      above_top n (w % top n + (cap n - 1 - top n)) (omega (arith, top_twice n)) (omega (arith, top_twice n, mod-lt w (top_pos n)))
      ∙ sym (other_low n w h)
  | no h ↦ below_top n (w % top n + (cap n - 1 - top n)) (omega (arith, top_twice n, top_pos n)) ∙ sym (zero_low n w (omega arith))
]

-- and of every counter: a magnitude and all bits of magnitudes sum up to less than the next counter's lowest bit
pub sum_lt : {n : ℕ} (L : Layout n) (w : ℕ) → bit_and w (rest L) + rest L < cap n
sum_lt {n} L w = omega (arith, and_le_r w (rest L), rest_lt L, top_twice n)

sum_halves : {n : ℕ} (l r : Layout n) (w : ℕ)
    → bit_and w (rest (halves l r)) + rest (halves l r)
    ≡ (bit_and (w / cap n) (rest r) + rest r) * cap n + (bit_and (w % cap n) (rest l) + rest l)
sum_halves {n} l r w =
    let small : rest l < cap n = omega (arith, rest_lt l, top_twice n) in
    let parts : bit_and w (rest r * cap n + rest l) ≡ bit_and (w / cap n) (rest r) * cap n + bit_and (w % cap n) (rest l) =
    ap (λ (x : ℕ). bit_and x (rest r * cap n + rest l)) (halves_of_lem n w) ∙ and_halves n (w / cap n) (rest r) (w % cap n) (rest l) (low_in n w) small in
    rw (rest_halves l r, parts) (omega (arith, add-mul (bit_and (w / cap n) (rest r)) (rest r) (cap n)))

pub nonzero_is : {n : ℕ} (L : Layout n) (w : ℕ) → bit_and (bit_and w (rest L) + rest L) (tops L) ≡ nonzero L w
unfolding tops nonzero
nonzero_is {n} merged w = rw (low_bits n w) (counter_nonzero n w)
nonzero_is (halves {n} l r) w =
    ap (λ (x : ℕ). bit_and x (tops r * cap n + tops l)) (sum_halves l r w)
    ∙ and_halves n (bit_and (w / cap n) (rest r) + rest r) (tops r) (bit_and (w % cap n) (rest l) + rest l) (tops l) (sum_lt l (w % cap n)) (tops_lt l)
    ∙ rw (nonzero_is l (w % cap n), nonzero_is r (w / cap n))

nonzero_lt : {n : ℕ} (L : Layout n) (w : ℕ) → nonzero L w < cap n
nonzero_lt L w = rw (← nonzero_is L w) (omega (arith, and_le_r (bit_and w (rest L) + rest L) (tops L), tops_lt L))

-- the bits of a counter: zero, a magnitude, minus zero, or minus a magnitude
module _ (n w : ℕ) (h : w < cap n) (P : Type 0) where
  by_sign : (w ≡ 0 → P) → (0 < w → w < top n → P) → (w ≡ top n → P) → (top n < w → P) → P
  by_sign f g p q = elim (dec_lt w (top n)) [
    | yes l ↦ elim (dec_lt 0 w) [ yes k ↦ g k l | no k ↦ f (omega arith) ]
    | no l ↦ elim (dec_lt (top n) w) [ yes k ↦ q k | no k ↦ p (omega arith) ]
  ]

low_above : (n w : ℕ) → top n ≤ w → w < cap n → w % top n ≡ w - top n
low_above n w l h =
    let e : w ≡ 1 * top n + (w - top n) = omega (arith, one-mul (top n)) in
    ap (λ (y : ℕ). y % top n) e ∙ digits_mod 1 {m = top n} {r = w - top n} (omega (arith, top_twice n))

nonzero_below : (n w : ℕ) → 0 < w → w < top n → nonzero (merged {n = n}) w ≡ top n
nonzero_below n w k l = other_low n w (rw (mod-eq_of_lt {n = w} {m = top n} l) k)

nonzero_above : (n w : ℕ) → w < cap n → top n < w → nonzero (merged {n = n}) w ≡ top n
nonzero_above n w h l = other_low n w (rw (low_above n w (omega arith) h) (omega arith))

nonzero_zero : (n : ℕ) → nonzero (merged {n = n}) 0 ≡ 0
nonzero_zero n = zero_low n 0 (mod-eq_of_lt {n = 0} {m = top n} (top_pos n))

nonzero_top : (n : ℕ) → nonzero (merged {n = n}) (top n) ≡ 0
nonzero_top n = zero_low n (top n) (low_above n (top n) (omega arith) (omega (arith, top_twice n, top_pos n)) ∙ omega arith)

-- no counter is minus zero where no sign bit is set that is not of a counter other than 0
unset : (n w : ℕ) → nonzero (merged {n = n}) w ≡ top n → eqb (bit_and (bit_xor (nonzero (merged {n = n}) w) (top n)) w) 0 ≡ true
unset n w e =
    ap (λ (x : ℕ). eqb (bit_and (bit_xor x (top n)) w) 0) e ∙ ap (λ (x : ℕ). eqb (bit_and x w) 0) (xor_self (top n)) ∙ ap (λ (x : ℕ). eqb x 0) (and_zero_l w)

set : (n : ℕ) → eqb (bit_and (bit_xor (nonzero (merged {n = n}) (top n)) (top n)) (top n)) 0 ≡ false
set n =
    ap (λ (x : ℕ). eqb (bit_and (bit_xor x (top n)) (top n)) 0) (nonzero_top n)
    ∙ ap (λ (x : ℕ). eqb (bit_and x (top n)) 0) (xor_zero_l (top n))
    ∙ ap (λ (x : ℕ). eqb x 0) (and_self (top n))
    ∙ ne_eqb (top n) 0 (λ z. omega (arith, top_pos n))

counter_clean : (n w : ℕ) → w < cap n → eqb (bit_and (bit_xor (nonzero (merged {n = n}) w) (top n)) w) 0 ≡ not_minus_zero n w
unfolding not_minus_zero
counter_clean n w h =
    by_sign n w h _
    (λ e. rw (e, and_zero_r (bit_xor (nonzero (merged {n = n}) 0) (top n)), ne_eqb 0 (top n) (λ z. omega (arith, top_pos n))))
    (λ k l. unset n w (nonzero_below n w k l) ∙ rw (ne_eqb w (top n) (λ z. omega arith)))
    (λ e. rw e (set n ∙ rw (eq-eqb (top n) (top n) refl)))
    (λ l. unset n w (nonzero_above n w h l) ∙ rw (ne_eqb w (top n) (λ z. omega arith)))

both_zero : (c x y : ℕ) → 0 < c → eqb (x * c + y) 0 ≡ (eqb y 0 && eqb x 0)
both_zero c x y h = elim (dec_lt 0 y) [
  | yes k ↦ rw (ne_eqb (x * c + y) 0 (λ e. omega arith), ne_eqb y 0 (λ e. omega arith))
  | no k ↦
      let z : y ≡ 0 = omega arith in
      elim (dec_lt 0 x) [
        | yes l ↦
            rw (z, ne_eqb x 0 (λ e. omega arith))
            (ne_eqb (x * c + 0) 0 (λ e. omega (arith, mul-le-mul_right {m = 1} {n = x} c l, one-mul c)))
        | no l ↦ let o : x ≡ 0 = omega arith in rw (z, o, zero-mul c)
      ]
]

pub clean_is : {n : ℕ} (L : Layout n) (w : ℕ) → w < cap n → eqb (bit_and (bit_xor (nonzero L w) (tops L)) w) 0 ≡ all_clean signed L w
unfolding tops nonzero all_clean
clean_is {n} merged w h = counter_clean n w h
clean_is (halves {n} l r) w h =
    let a = nonzero l (w % cap n) in
    let b = nonzero r (w / cap n) in
    let parts : bit_and (bit_xor (b * cap n + a) (tops r * cap n + tops l)) w ≡ bit_and (bit_xor b (tops r)) (w / cap n) * cap n + bit_and (bit_xor a (tops l)) (w % cap n) =
    ap (λ (x : ℕ). bit_and x w) (xor_halves n b (tops r) a (tops l) (nonzero_lt l (w % cap n)) (tops_lt l))
    ∙ ap (bit_and (bit_xor b (tops r) * cap n + bit_xor a (tops l))) (halves_of_lem n w)
    ∙ and_halves n (bit_xor b (tops r)) (w / cap n) (bit_xor a (tops l)) (w % cap n) (xor_in n a (tops l) (nonzero_lt l (w % cap n)) (tops_lt l)) (low_in n w) in
    ap (λ (x : ℕ). eqb x 0) parts
    ∙ both_zero (cap n) (bit_and (bit_xor b (tops r)) (w / cap n)) (bit_and (bit_xor a (tops l)) (w % cap n)) (cap_pos n)
    ∙ rw (clean_is l (w % cap n) (low_in n w), clean_is r (w / cap n) (high_lt n w h))

-- every counter with the other sign: the sign bits of those other than 0 turned over
xor_above : (n w : ℕ) → top n < w → w < cap n → bit_xor w (top n) ≡ w - top n
unfolding top
xor_above n w l h =
    let k = 8 * 2 ^ n - 1 in
    let e : w ≡ 1 * 2 ^ k + (w - 2 ^ k) = omega (arith, one-mul (2 ^ k)) in
    let f : 2 ^ k ≡ 1 * 2 ^ k + 0 = omega (arith, one-mul (2 ^ k)) in
    ap (λ (x : ℕ). bit_xor x (2 ^ k)) e
    ∙ ap (bit_xor (1 * 2 ^ k + (w - 2 ^ k))) f
    ∙ xor_block k 1 1 (w - 2 ^ k) 0 (omega (arith, top_twice n)) (pow_pos k)
    ∙ rw (xor_zero_r (w - 2 ^ k)) (omega arith)

xor_below : (n w : ℕ) → w < top n → bit_xor w (top n) ≡ top n + w
unfolding top
xor_below n w l =
    let k = 8 * 2 ^ n - 1 in
    let f : 1 * 2 ^ k ≡ 2 ^ k = one-mul (2 ^ k) in
    xor_comm w (2 ^ k) ∙ (rw f at (xor_shifted 1 k w l))

counter_negated : (n w : ℕ) → w < cap n → not_minus_zero n w ≡ true → bit_xor w (nonzero (merged {n = n}) w) ≡ sign_bits n (times_sign true (sign_read n w))
unfolding not_minus_zero times_sign sign_read sign_bits
counter_negated n w h c =
    by_sign n w h _
    (λ e. rw (e, nonzero_zero n, lt-ltb 0 (top n) (top_pos n)))
    (λ k l. ap (bit_xor w) (nonzero_below n w k l) ∙ xor_below n w l ∙ rw (lt-ltb w (top n) l) (sym (bits_neg n w k)))
    (λ e. absurd (true≢false (sym c ∙ ap not (eq-eqb w (top n) e))))
    (λ l.
    ap (bit_xor w) (nonzero_above n w h l)
    ∙ xor_above n w l h
    ∙ rw (le-ltb w (top n) (omega arith), neg_ℤ-neg_ℤ (pos (w - top n))))

pub negated_is : {n : ℕ} (L : Layout n) (w : ℕ) → w < cap n → all_clean signed L w ≡ true
    → bit_xor w (nonzero L w) ≡ number_of (times_block true (fill {K = signed} L w))
unfolding nonzero all_clean number_of times_block fill
negated_is {n} merged w h c = counter_negated n w h c
negated_is (halves {n} l r) w h c =
    let p = (and-eq-true_iff (all_clean signed l (w % cap n)) (all_clean signed r (w / cap n))).0 c in
    let a = nonzero l (w % cap n) in
    let b = nonzero r (w / cap n) in
    ap (λ (x : ℕ). bit_xor x (b * cap n + a)) (halves_of_lem n w)
    ∙ xor_halves n (w / cap n) b (w % cap n) a (low_in n w) (nonzero_lt l (w % cap n))
    ∙ rw (negated_is l (w % cap n) (low_in n w) p.0, negated_is r (w / cap n) (high_lt n w h) p.1)
