-- Sums of slots in the bytes of a number, byte by byte: for any number of bytes.
use mathlib.Core.Path.{◌≡◌, refl, sym, ap, ap₂, ◌∙◌}
use mathlib.Core.List.{List, [], ◌∷◌}
use Prim.Native.Nat.{ℕ, zero, suc, ◌+◌, ◌*◌, ◌/◌, ◌%◌, ◌^◌, ◌≤◌, ◌<◌}
use native.Mathlib.Nat.{add-zero, add-suc, div-one, mod-one, mul_left_comm}
use native.Mathlib.Omega.{arith}
use lib.Bits.{bit_and, bit_or, bit_xor, and_block, or_block, xor_block, and_mask, and_le_l, and_le_r, or_lt, xor_lt}
use lib.ListN.{length}
use lib.Pow.{pow-add, shr-shr, field, mod-mod-pow}
use Rattle.laws.proofs.Lists.{Bytes}
use Rattle.little_endian.specs.Bytes.{number}
use Rattle.signed_slots.specs.Slots.{signs, magnitudes, folded, apart, total, past, size, minus, sums, over, rep}

-- a number by its lowest byte and the rest
module _ (x y X Y : ℕ) (h : x < 256) (k : y < 256) where
  and_put : bit_and (x + 256 * X) (y + 256 * Y) ≡ bit_and x y + 256 * bit_and X Y
  and_put =
      let e : x + 256 * X ≡ X * 256 + x = omega arith in
      let f : y + 256 * Y ≡ Y * 256 + y = omega arith in
      ap₂ bit_and e f ∙ and_block 8 X Y x y h k ∙ omega arith

  or_put : bit_or (x + 256 * X) (y + 256 * Y) ≡ bit_or x y + 256 * bit_or X Y
  or_put =
      let e : x + 256 * X ≡ X * 256 + x = omega arith in
      let f : y + 256 * Y ≡ Y * 256 + y = omega arith in
      ap₂ bit_or e f ∙ or_block 8 X Y x y h k ∙ omega arith

  xor_put : bit_xor (x + 256 * X) (y + 256 * Y) ≡ bit_xor x y + 256 * bit_xor X Y
  xor_put =
      let e : x + 256 * X ≡ X * 256 + x = omega arith in
      let f : y + 256 * Y ≡ Y * 256 + y = omega arith in
      ap₂ bit_xor e f ∙ xor_block 8 X Y x y h k ∙ omega arith

pub signs_is : (x : ℕ) → x < 256 → signs 1 x ≡ x / 128
unfolding signs
signs_is x h = and_mask (x / 128) 1 ∙ omega arith

pub magnitudes_is : (x : ℕ) → magnitudes 127 x ≡ x % 128
unfolding magnitudes
magnitudes_is x = and_mask x 7

signs_put : (o x X : ℕ) → x < 256 → signs (1 + 256 * o) (x + 256 * X) ≡ signs 1 x + 256 * signs o X
unfolding signs
signs_put o x X h =
    let low = x / 128 + 2 * (X % 128) in
    let e : (x + 256 * X) / 128 ≡ low + 256 * (X / 128) = omega arith in
    let one : bit_and low 1 ≡ low % 2 = and_mask low 1 in
    let one' : bit_and (x / 128) 1 ≡ x / 128 % 2 = and_mask (x / 128) 1 in
    ap (λ (z : ℕ). bit_and z (1 + 256 * o)) e ∙ and_put low 1 (X / 128) o (omega arith) (omega arith) ∙ omega arith

magnitudes_put : (l x X : ℕ) → x < 256 → magnitudes (127 + 256 * l) (x + 256 * X) ≡ magnitudes 127 x + 256 * magnitudes l X
unfolding magnitudes
magnitudes_put l x X h = and_put x 127 X l h (omega arith)

folded_put : (d D w W : ℕ) → d ≤ 1 → w < 128 → folded (d + 256 * D) (w + 256 * W) ≡ folded d w + 256 * folded D W
unfolding folded
folded_put d D w W h k =
    let e : (d + 256 * D) * 127 ≡ d * 127 + 256 * (D * 127) = omega arith in
    let f = ap (bit_xor (w + 256 * W)) e ∙ xor_put w (d * 127) W (D * 127) (omega arith) (omega arith) in
    omega (arith, f)

folded_le : (d w : ℕ) → d ≤ 1 → w < 128 → folded d w ≤ 128
unfolding folded
folded_le d w h k = omega (arith, xor_lt 7 w (d * 127) k (omega arith))

-- one byte
module _ (x y : ℕ) where
  signs_le : signs 1 x ≤ 1
  unfolding signs
  signs_le = and_le_r (x / 128) 1

  low_lt : magnitudes 127 x < 128
  low_lt = omega (arith, magnitudes_is x)

module _ (x y : ℕ) where
  pub apart_le : apart 1 x y ≤ 1
  unfolding apart
  apart_le = omega (arith, xor_lt 1 (signs 1 x) (signs 1 y) (omega (arith, signs_le x x)) (omega (arith, signs_le y y)))

  pub total_lt : total 1 127 x y < 256
  unfolding total
  total_lt = omega (arith, low_lt x x, folded_le (apart 1 x y) (magnitudes 127 y) apart_le (low_lt y y))

  past_le : past 1 127 x y ≤ 1
  unfolding past
  past_le = omega (arith, and_le_l (apart 1 x y) (bit_xor (signs 1 (total 1 127 x y)) 1), apart_le)

  pub size_le : size 1 127 x y ≤ 128
  unfolding size
  size_le = folded_le (past 1 127 x y) (magnitudes 127 (total 1 127 x y)) past_le (low_lt (total 1 127 x y) 0)

  minus_le : minus 1 127 x y ≤ 1
  unfolding minus
  minus_le =
      omega (arith, and_le_r (bit_xor (signs 1 x) (past 1 127 x y)) (signs 1 (size 1 127 x y + 127)), signs_le (size 1 127 x y + 127) 0)

  pub sums_small : sums 1 127 x y < 256
  unfolding sums
  sums_small = or_lt 8 (size 1 127 x y) (minus 1 127 x y * 128) (omega (arith, size_le)) (omega (arith, minus_le))

  pub over_small : over 1 127 x y < 256
  unfolding over
  over_small = omega (arith, and_le_l (signs 1 (total 1 127 x y)) (bit_xor (apart 1 x y) 1), signs_le (total 1 127 x y) 0)

-- one byte and the rest
module _ (o l x y X Y : ℕ) (h : x < 256) (k : y < 256) where
  apart_put : apart (1 + 256 * o) (x + 256 * X) (y + 256 * Y) ≡ apart 1 x y + 256 * apart o X Y
  unfolding apart
  apart_put =
      rw (signs_put o x X h, signs_put o y Y k)
      (xor_put (signs 1 x) (signs 1 y) (signs o X) (signs o Y) (omega (arith, signs_le x x)) (omega (arith, signs_le y y)))

  pub total_put : total (1 + 256 * o) (127 + 256 * l) (x + 256 * X) (y + 256 * Y) ≡ total 1 127 x y + 256 * total o l X Y
  unfolding total
  total_put =
      rw (
        apart_put,
        magnitudes_put l x X h,
        magnitudes_put l y Y k,
        folded_put (apart 1 x y) (apart o X Y) (magnitudes 127 y) (magnitudes l Y) (apart_le x y) (low_lt y y),
      )
      (omega arith)

  above_put : signs (1 + 256 * o) (total (1 + 256 * o) (127 + 256 * l) (x + 256 * X) (y + 256 * Y))
      ≡ signs 1 (total 1 127 x y) + 256 * signs o (total o l X Y)
  above_put = rw total_put (signs_put o (total 1 127 x y) (total o l X Y) (total_lt x y))

  past_put : past (1 + 256 * o) (127 + 256 * l) (x + 256 * X) (y + 256 * Y) ≡ past 1 127 x y + 256 * past o l X Y
  unfolding past
  past_put =
      let s = signs 1 (total 1 127 x y) in
      let below = signs_le (total 1 127 x y) 0 in
      rw (apart_put, above_put, xor_put s 1 (signs o (total o l X Y)) o (omega arith) (omega arith))
      (and_put (apart 1 x y) (bit_xor s 1) (apart o X Y) (bit_xor (signs o (total o l X Y)) o) (omega (arith, apart_le x y)) (omega (arith, xor_lt 8 s 1 (omega arith) (omega arith))))

  size_put : size (1 + 256 * o) (127 + 256 * l) (x + 256 * X) (y + 256 * Y) ≡ size 1 127 x y + 256 * size o l X Y
  unfolding size
  size_put =
      rw (past_put, total_put, magnitudes_put l (total 1 127 x y) (total o l X Y) (total_lt x y))
      (folded_put (past 1 127 x y) (past o l X Y) (magnitudes 127 (total 1 127 x y)) (magnitudes l (total o l X Y)) (past_le x y) (low_lt (total 1 127 x y) 0))

  pub raised_put : size (1 + 256 * o) (127 + 256 * l) (x + 256 * X) (y + 256 * Y) + (127 + 256 * l) ≡ (size 1 127 x y + 127) + 256 * (size o l X Y + l)
  raised_put = omega (arith, size_put)

  minus_put : minus (1 + 256 * o) (127 + 256 * l) (x + 256 * X) (y + 256 * Y) ≡ minus 1 127 x y + 256 * minus o l X Y
  unfolding minus
  minus_put =
      let small : size 1 127 x y + 127 < 256 = omega (arith, size_le x y) in
      let p = signs 1 x in
      let n = past 1 127 x y in
      let below = signs_le x x in
      let least = past_le x y in
      rw (raised_put, signs_put o (size 1 127 x y + 127) (size o l X Y + l) small, signs_put o x X h, past_put, xor_put p n (signs o X) (past o l X Y) (omega arith) (omega arith))
      (and_put (bit_xor p n) (signs 1 (size 1 127 x y + 127)) (bit_xor (signs o X) (past o l X Y)) (signs o (size o l X Y + l))
      (xor_lt 8 p n (omega arith) (omega arith)) (omega (arith, signs_le (size 1 127 x y + 127) 0)))

  pub sums_put : sums (1 + 256 * o) (127 + 256 * l) (x + 256 * X) (y + 256 * Y) ≡ sums 1 127 x y + 256 * sums o l X Y
  unfolding sums
  sums_put =
      let e : (minus 1 127 x y + 256 * minus o l X Y) * 128 ≡ minus 1 127 x y * 128 + 256 * (minus o l X Y * 128) = omega arith in
      rw (size_put, minus_put, e)
      (or_put (size 1 127 x y) (minus 1 127 x y * 128) (size o l X Y) (minus o l X Y * 128) (omega (arith, size_le x y)) (omega (arith, minus_le x y)))

  pub over_put : over (1 + 256 * o) (127 + 256 * l) (x + 256 * X) (y + 256 * Y) ≡ over 1 127 x y + 256 * over o l X Y
  unfolding over
  over_put =
      let s = signs 1 (total 1 127 x y) in
      let below = signs_le (total 1 127 x y) 0 in
      let least = apart_le x y in
      rw (apart_put, above_put, xor_put (apart 1 x y) 1 (apart o X Y) o (omega arith) (omega arith))
      (and_put s (bit_xor (apart 1 x y) 1) (signs o (total o l X Y)) (bit_xor (apart o X Y) o) (omega arith) (xor_lt 8 (apart 1 x y) 1 (omega arith) (omega arith)))

pow_byte : (n : ℕ) → 2 ^ (8 * suc n) ≡ 256 * 2 ^ (8 * n)
pow_byte n = ap (λ (k : ℕ). 2 ^ k) (omega arith) ∙ pow-add 2 8 (8 * n)

-- a byte and n more: those above them all, the first, and the n
module _ (n w : ℕ) where
  past_first : w / 2 ^ (8 * suc n) ≡ w / 256 / 2 ^ (8 * n)
  past_first = ap (λ (k : ℕ). w / 2 ^ k) (omega arith) ∙ sym (shr-shr w 8 (8 * n))

  at_first : w % 2 ^ (8 * suc n) % 256 ≡ w % 256
  at_first = ap (λ (k : ℕ). w % 2 ^ k % 256) (omega arith) ∙ mod-mod-pow w (8 * n) 8

  above_first : w % 2 ^ (8 * suc n) / 256 ≡ w / 256 % 2 ^ (8 * n)
  above_first = ap (λ (k : ℕ). w % 2 ^ k / 256) (omega arith) ∙ field w (8 * n) 8

-- a function of bytes of two lists
unfoldable pub zip : (ℕ → ℕ → ℕ) → List ℕ → List ℕ → List ℕ
zip f [] ys = []
zip f (x ∷ xs) [] = []
zip f (x ∷ xs) (y ∷ ys) = f x y ∷ zip f xs ys

-- a function of numbers that goes byte by byte
abbrev Lanes : (ℕ → ℕ → ℕ → ℕ → ℕ) → Type 0
Lanes e = (e 0 0 0 0 ≡ 0) × ((o l x y X Y : ℕ) → x < 256 → y < 256 → e (1 + 256 * o) (127 + 256 * l) (x + 256 * X) (y + 256 * Y) ≡ e 1 127 x y + 256 * e o l X Y)

pub lanes : (e : ℕ → ℕ → ℕ → ℕ → ℕ) → Lanes e → (xs ys : List ℕ) → length ys ≡ length xs → Bytes xs → Bytes ys
    → e (rep 1 (length xs)) (rep 127 (length xs)) (number xs) (number ys) ≡ number (zip (e 1 127) xs ys)
unfolding rep zip number
lanes e p [] [] m b c = p.0
lanes e p [] (y ∷ ys) m b c = absurd (omega arith)
lanes e p (x ∷ xs) [] m b c = absurd (omega arith)
lanes e p (x ∷ xs) (y ∷ ys) m b c =
    p.1 (rep 1 (length xs)) (rep 127 (length xs)) x y (number xs) (number ys) (b 0) (c 0)
    ∙ ap (λ (n : ℕ). e 1 127 x y + 256 * n) (lanes e p xs ys (omega arith) (λ i. b (suc i)) (λ i. c (suc i)))

-- in the bytes of two numbers
module _ (e : ℕ → ℕ → ℕ → ℕ → ℕ) (p : Lanes e) where
  abbrev in_bytes : ℕ → ℕ → ℕ → ℕ
  in_bytes n w v = e (rep 1 n) (rep 127 n) w v

  first_lane : (n w v : ℕ) → in_bytes (suc n) w v ≡ e 1 127 (w % 256) (v % 256) + 256 * in_bytes n (w / 256) (v / 256)
  unfolding rep
  first_lane n w v =
      let f : w ≡ w % 256 + 256 * (w / 256) = omega arith in
      let g : v ≡ v % 256 + 256 * (v / 256) = omega arith in
      ap₂ (e (1 + 256 * rep 1 n) (127 + 256 * rep 127 n)) f g
      ∙ p.1 (rep 1 n) (rep 127 n) (w % 256) (v % 256) (w / 256) (v / 256) (omega arith) (omega arith)

  -- it stays within them
  pub lanes_lt : ((x y : ℕ) → e 1 127 x y < 256) → (n w v : ℕ) → w < 2 ^ (8 * n) → v < 2 ^ (8 * n) → in_bytes n w v < 2 ^ (8 * n)
  unfolding rep
  lanes_lt f zero w v h k =
      let z : w ≡ 0 = omega arith in
      let y : v ≡ 0 = omega arith in
      rw (z, y, p.0) (omega arith)
  lanes_lt f (suc n) w v h k =
      let q = pow_byte n in
      let rest = lanes_lt f n (w / 256) (v / 256) (omega arith) (omega arith) in
      rw (first_lane n w v) (omega (arith, f (w % 256) (v % 256)))

  -- and goes by their parts, of a bytes and of b above
  pub lanes_parts : (b a w v : ℕ)
      → in_bytes (b + a) w v ≡ in_bytes b (w / 2 ^ (8 * a)) (v / 2 ^ (8 * a)) * 2 ^ (8 * a) + in_bytes a (w % 2 ^ (8 * a)) (v % 2 ^ (8 * a))
  unfolding rep
  lanes_parts b zero w v = rw (add-zero b, div-one w, div-one v, mod-one w, mod-one v, p.0) (omega arith)
  lanes_parts b (suc a) w v =
      let high = in_bytes b (w / 256 / 2 ^ (8 * a)) (v / 256 / 2 ^ (8 * a)) in
      rw (
        add-suc b a,
        first_lane (b + a) w v,
        lanes_parts b a (w / 256) (v / 256),
        first_lane a (w % 2 ^ (8 * suc a)) (v % 2 ^ (8 * suc a)),
        past_first a w,
        past_first a v,
        at_first a w,
        at_first a v,
        above_first a w,
        above_first a v,
        pow_byte a,
      )
      (omega (arith, mul_left_comm high 256 (2 ^ (8 * a))))

pub total_lanes : Lanes total
unfolding total magnitudes folded apart signs
total_lanes = (refl, λ o l x y X Y h k. total_put o l x y X Y h k)

pub raised_lanes : Lanes (λ o l w v. size o l w v + l)
unfolding size past total magnitudes folded apart signs
raised_lanes = (refl, λ o l x y X Y h k. raised_put o l x y X Y h k)

pub sums_lanes : Lanes sums
unfolding sums minus size past total magnitudes folded apart signs
sums_lanes = (refl, λ o l x y X Y h k. sums_put o l x y X Y h k)

pub over_lanes : Lanes over
unfolding over total magnitudes folded apart signs
over_lanes = (refl, λ o l x y X Y h k. over_put o l x y X Y h k)
