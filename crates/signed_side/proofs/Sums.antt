-- The sum of two slots by two's complement, and many, one by one.
use Rattle.std.proofs.Common.{◌≡◌, ℕ, suc, ◌+◌, ◌-◌, ◌/◌, ◌%◌, ◌<◌, ◌≤◌, Bool, true, false, cond, eqb, List, length, get_or, set, ℤ, pos, negsuc, ◌+ℤ◌, neg_ℤ, nat_abs, sym, refl, ap, ◌∙◌, ap₂, arith, get_or-set_other, get_or-set_same, below_more, le-ltb, lt-ltb, eq-eqb}
use native.Mathlib.Decide.{dec_lt}
use lib.Bits.{bit_and, bit_or, bit_xor, and_shr, xor_shr, or_add_and, and_le_l, and_le_r}
use lib.IntN.{+ℤ_comm}
use Rattle.signed_number.specs.Number.{times_sign}
use Rattle.signed_block.specs.Signed.{top, sign_bits, sign_read}
use Rattle.signed_side.specs.Side.{value, complement, times, InSlot, Neither, HoldsSum, NoMinusZeros, HoldSums}

-- flags taken together
pub or_above : (a b : ℕ) → (a ≤ bit_or a b) × (b ≤ bit_or a b)
or_above a b = (omega (arith, or_add_and a b, and_le_r a b), omega (arith, or_add_and a b, and_le_l a b))

-- a byte whose mark is not set is not 128
pub unmarked : (v a m : ℕ) → m ≡ cond (eqb a 128) v 0 → m < v → a ≡ 128 → ⊥
unmarked v a m e h z = let f : m ≡ v = rw (eq-eqb a 128 z) at e in omega arith

-- the integer that a byte is
low : (b : ℕ) → b < 128 → value b ≡ pos b
unfolding value
low b h = rw (lt-ltb b 128 h)

high : (b : ℕ) → 128 ≤ b → value b ≡ negsuc (255 - b)
unfolding value
high b h = rw (le-ltb b 128 h)

-- sums modulo 256
low_low : (a b : ℕ) → a < 128 → b < 128 → (a + b) % 256 < 128 → value a +ℤ value b ≡ value ((a + b) % 256)
low_low a b h k l = rw (low a h, low b k, low ((a + b) % 256) l) (ap pos (omega arith))

high_high : (a b : ℕ) → 128 ≤ a → 128 ≤ b → a < 256 → b < 256 → 128 ≤ (a + b) % 256 → value a +ℤ value b ≡ value ((a + b) % 256)
high_high a b h k m n l = rw (high a h, high b k, high ((a + b) % 256) l) (ap negsuc (omega arith))

low_high : (a b : ℕ) → a < 128 → 128 ≤ b → b < 256 → value a +ℤ value b ≡ value ((a + b) % 256)
low_high a b h k n = elim (dec_lt a (suc (255 - b))) [
  | yes l ↦ rw (low a h, high b k, high ((a + b) % 256) (omega arith), lt-ltb a (suc (255 - b)) l) (ap negsuc (omega arith))
  | no l ↦ rw (low a h, high b k, low ((a + b) % 256) (omega arith), le-ltb a (suc (255 - b)) (omega arith)) (ap pos (omega arith))
]

-- by the highest bit of the byte that tells of overflow
module _ (a b s : ℕ) (h : a < 256) (k : b < 256) (e : s ≡ (a + b) % 256) (o : bit_and (bit_xor a s) (bit_xor b s) < 128) where
  signs : (p q t : ℕ) → a / 128 ≡ p → b / 128 ≡ q → s / 128 ≡ t → bit_and (bit_xor p t) (bit_xor q t) ≡ 0
  signs p q t u v w =
      let z : bit_and (bit_xor a s) (bit_xor b s) / 128 ≡ 0 = omega arith in
      rw (and_shr (bit_xor a s) (bit_xor b s) 7, xor_shr a s 7, xor_shr b s 7, u, v, w) at z

  pub no_overflow : value a +ℤ value b ≡ value ((a + b) % 256)
  no_overflow = elim (dec_lt a 128) [
    | yes l ↦
        elim (dec_lt b 128) [
          | yes m ↦ elim (dec_lt s 128) [
            | yes n ↦ low_low a b l m (omega arith)
            | no n ↦ absurd (omega (arith, signs 0 0 1 (omega arith) (omega arith) (omega arith)))
          ]
          | no m ↦ low_high a b l (omega arith) k
        ]
    | no l ↦
        elim (dec_lt b 128) [
          | yes m ↦
              let turn : (b + a) % 256 ≡ (a + b) % 256 = ap (λ (n : ℕ). n % 256) (omega arith) in
              +ℤ_comm (value a) (value b) ∙ low_high b a m (omega arith) h ∙ ap value turn
          | no m ↦ elim (dec_lt s 128) [
            | yes n ↦ absurd (omega (arith, signs 1 1 0 (omega arith) (omega arith) (omega arith)))
            | no n ↦ high_high a b (omega arith) (omega arith) h k (omega arith)
          ]
        ]
  ]

-- a slot as a byte modulo 256, and back
module _ (b : ℕ) (h : b < 256) (n : b ≡ 128 → ⊥) where
  complement_in : (complement b < 256) × (complement b ≡ 128 → ⊥)
  unfolding complement
  complement_in = elim (dec_lt b 128) [
    | yes l ↦ rw (lt-ltb b 128 l) (h, n)
    | no l ↦ rw (le-ltb b 128 (omega arith)) (omega arith, λ e. n (omega arith))
  ]

  read_is : sign_read 0 b ≡ value (complement b)
  unfolding sign_read complement top
  read_is = elim (dec_lt b 128) [
    | yes l ↦ rw (lt-ltb b 128 l) (sym (low b l))
    | no l ↦
        let e : b - 128 ≡ suc (255 - (384 - b) % 256) = omega arith in
        rw (le-ltb b 128 (omega arith), e) (sym (high ((384 - b) % 256) (omega arith)))
  ]

  slot_is : (nat_abs (value b) < top 0) × (complement b ≡ sign_bits 0 (value b))
  unfolding complement top sign_bits
  slot_is = elim (dec_lt b 128) [
    | yes l ↦ rw (low b l, lt-ltb b 128 l) (l, refl)
    | no l ↦ rw (high b (omega arith), le-ltb b 128 (omega arith)) (omega arith, omega arith)
  ]

  -- and times a sign
  negated : value ((256 - b) % 256) ≡ neg_ℤ (value b)
  negated = elim (dec_lt b 128) [
    | yes l ↦
        elim (dec_lt 0 b) [
          | yes k ↦
              let e : suc (255 - (256 - b) % 256) ≡ b = omega arith in
              high ((256 - b) % 256) (omega arith) ∙ ap (λ (m : ℕ). neg_ℤ (pos m)) e ∙ ap neg_ℤ (sym (low b l))
          | no k ↦
              let z : b ≡ 0 = omega arith in
              rw (z, low 0 (omega arith))
        ]
    | no l ↦ low ((256 - b) % 256) (omega arith) ∙ ap pos (omega arith) ∙ ap neg_ℤ (sym (high b (omega arith)))
  ]

  times_is : (minus : Bool) → value (times minus b) ≡ times_sign minus (value b)
  unfolding times times_sign
  times_is true = negated
  times_is false = refl

-- the slot of the sum of two, by the bytes that the code makes
module _ (minus : Bool) (a b : ℕ) (h : a < 256) (k : b < 256) (n : Neither a b) where
  pub slot_held : (x y s c : ℕ) → x ≡ complement a → y ≡ times minus (complement b) → s ≡ (x + y) % 256 → c ≡ complement s → InSlot x y → HoldsSum minus a b c
  slot_held x y s c ex ey es ec o =
      let d = complement_in b k n.1 in
      let first : sign_read 0 a ≡ value x = read_is a h n.0 ∙ ap value (sym ex) in
      let second : times_sign minus (sign_read 0 b) ≡ value y =
      ap (times_sign minus) (read_is b k n.1) ∙ sym (times_is (complement b) d.0 d.1 minus) ∙ ap value (sym ey) in
      let sum : sign_read 0 a +ℤ times_sign minus (sign_read 0 b) ≡ value s = ap₂ (λ (u v : ℤ). u +ℤ v) first second ∙ o.0 ∙ ap value (sym es) in
      let slot = slot_is s (omega arith) (λ z. o.1 (sym es ∙ z)) in
      (n, rw sum slot.0, ec ∙ slot.1 ∙ ap (sign_bits 0) (sym sum))

-- one slot more
module _ (counts source : List ℕ) (i bad : ℕ) where
  pub zeros_turn : (m n : ℕ) → (bad ≡ 0 → NoMinusZeros i counts source) → m ≡ cond (eqb (get_or counts i 0) 128) 1 0 → n ≡ cond (eqb (get_or source i 0) 128) 1 0
      → bit_or (bit_or bad m) n ≡ 0 → NoMinusZeros (i + 1) counts source
  zeros_turn m n before e f z =
      let o = or_above bad m in
      let p = or_above (bit_or bad m) n in
      below_more (λ (k : ℕ). Neither (get_or counts k 0) (get_or source k 0)) i (before (omega (arith, o.0, p.0)))
      (unmarked 1 (get_or counts i 0) m e (omega (arith, o.1, p.0)), unmarked 1 (get_or source i 0) n f (omega (arith, p.1)))

  pub sums_turn : (minus : Bool) (bytes : List ℕ) (c m : ℕ) → i < length bytes → (bad < 128 → HoldSums minus i counts source bytes)
      → (m < 128 → HoldsSum minus (get_or counts i 0) (get_or source i 0) c) → bit_or bad m < 128 → HoldSums minus (i + 1) counts source (set bytes i c)
  sums_turn minus bytes c m h before here z =
      let o = or_above bad m in
      below_more (λ (k : ℕ). HoldsSum minus (get_or counts k 0) (get_or source k 0) (get_or (set bytes i c) k 0)) i
      (λ k l. rw (get_or-set_other bytes i k c 0 (λ e. omega arith)) (before (omega (arith, o.0)) k l))
      (rw (get_or-set_same bytes i c 0 h) (here (omega (arith, o.1))))
