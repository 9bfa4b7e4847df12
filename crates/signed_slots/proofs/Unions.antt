-- The sums of slots in the bytes of two numbers are the union of two unmerged groups, where each slot holds its sum.
use mathlib.Core.Path.{◌≡◌, refl, sym, ◌∙◌}
use mathlib.Core.List.{List, [], ◌∷◌}
use Prim.Native.Nat.{ℕ, zero, suc, ◌+◌, ◌*◌, ◌/◌, ◌^◌, ◌<◌}
use native.Mathlib.Omega.{arith}
use lib.Bits.{bit_xor, and_le_l, and_le_r, xor_add_and}
use lib.ListN.{length}
use Rattle.laws.proofs.Lists.{Bytes}
use Rattle.little_endian.specs.Bytes.{number, bytes}
use Rattle.little_endian.proofs.Bytes.{number_bytes}
use Rattle.group_side.proofs.Slots.{Each, none, more, Holds, sums_passed}
use Rattle.signed_block.specs.Signed.{signed}
use Rattle.signed_number.specs.Number.{signed_of}
use Rattle.signed_block.proofs.Counters.{signed_codes}
use Rattle.signed_slots.specs.Slots.{ones, lows, signs, magnitudes, spread, folded, apart, total, past, size, minus, sums, over, rep, Stay}
use Rattle.signed_slots.proofs.Lanes.{zip, lanes, lanes_lt, total_lt, size_le, total_lanes, raised_lanes, sums_lanes, over_lanes}
use Rattle.signed_slots.proofs.Slot.{sum_held}

each_held : (xs ys : List ℕ) → length ys ≡ length xs → Bytes xs → Bytes ys → number (zip (over 1 127) xs ys) ≡ 0
    → Each (Holds signed) xs ys (zip (sums 1 127) xs ys)
unfolding zip number
each_held [] [] m b c e = none
each_held [] (y ∷ ys) m b c e = absurd (omega arith)
each_held (x ∷ xs) [] m b c e = absurd (omega arith)
each_held (x ∷ xs) (y ∷ ys) m b c e =
    let s = sum_held x y (b 0) (c 0) (omega arith) in
    more (record { first = b 0; second = c 0; small = s.0; is = s.1 }) (each_held xs ys (omega arith) (λ i. b (suc i)) (λ i. c (suc i)) (omega arith))

bytes_small : (n v : ℕ) → Bytes (bytes n v)
unfolding bytes
bytes_small zero v i = omega arith
bytes_small (suc n) v zero = omega arith
bytes_small (suc n) v (suc i) = bytes_small n (v / 256) i

-- numbers of eight bytes
eight_lanes : (e : ℕ → ℕ → ℕ → ℕ → ℕ) (w v : ℕ) → w < 2 ^ 64 → v < 2 ^ 64
    → e (rep 1 8) (rep 127 8) (number (bytes 8 w)) (number (bytes 8 v)) ≡ e ones lows w v
unfolding rep
eight_lanes e w v h k = rw (number_bytes 8 w h, number_bytes 8 v k)

module _ (w v : ℕ) (h : w < 2 ^ 64) (k : v < 2 ^ 64) where
  pub total_in : total ones lows w v < 2 ^ 64
  unfolding rep
  total_in = lanes_lt total total_lanes (λ x y. total_lt x y) 8 w v h k

  pub raised_in : size ones lows w v + lows < 2 ^ 64
  unfolding rep
  raised_in = lanes_lt (λ o l x y. size o l x y + l) raised_lanes (λ x y. omega (arith, size_le x y)) 8 w v h k

  pub stay : over ones lows w v ≡ 0 → Stay w 0 v 0 (sums ones lows w v)
  unfolding bytes
  stay e =
      let xs = bytes 8 w in
      let ys = bytes 8 v in
      let o : number (zip (over 1 127) xs ys) ≡ 0 =
      sym (lanes over over_lanes xs ys refl (bytes_small 8 w) (bytes_small 8 v)) ∙ eight_lanes over w v h k ∙ e in
      let s : number (zip (sums 1 127) xs ys) ≡ sums ones lows w v =
      sym (lanes sums sums_lanes xs ys refl (bytes_small 8 w) (bytes_small 8 v)) ∙ eight_lanes sums w v h k in
      rw (s, number_bytes 8 w h, number_bytes 8 v k) at
      (sums_passed signed_codes 3 {xs = xs} {ys = ys} refl (each_held xs ys refl (bytes_small 8 w) (bytes_small 8 v) o) signed_of)

-- the code's sums
module _ (w v : ℕ) (h : w < 2 ^ 64) (k : v < 2 ^ 64) where
  pub folded_in : folded (apart ones w v) (magnitudes lows v) < 2 ^ 64
  unfolding total
  folded_in = let t = total_in w v h k in omega arith

  pub size_in : size ones lows w v < 2 ^ 64
  size_in = omega (arith, raised_in w v h k)

-- and products
pub apart_spread : (w v : ℕ) → spread (apart ones w v) < 2 ^ 64
unfolding spread apart signs
apart_spread w v =
    omega (arith, xor_add_and (signs ones w) (signs ones v), and_le_r (w / 128) ones, and_le_r (v / 128) ones)

pub past_spread : (w v : ℕ) → spread (past ones lows w v) < 2 ^ 64
unfolding spread past
past_spread w v =
    omega (arith, and_le_l (apart ones w v) (bit_xor (signs ones (total ones lows w v)) ones), apart_spread w v)

pub minus_product : (w v : ℕ) → minus ones lows w v * 128 < 2 ^ 64
unfolding minus signs
minus_product w v =
    omega (arith, and_le_r (bit_xor (signs ones w) (past ones lows w v)) (signs ones (size ones lows w v + lows)), and_le_r ((size ones lows w v + lows) / 128) ones)
