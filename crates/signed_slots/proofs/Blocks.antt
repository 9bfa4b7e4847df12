-- Sums of the slots of a block, by its halves and slot by slot.
use mathlib.Core.Path.{◌≡◌, refl}
use Prim.Native.Nat.{ℕ, suc, ◌+◌, ◌*◌, ◌/◌, ◌%◌, ◌^◌, ◌≤◌, ◌<◌}
use native.Mathlib.Nat.{mod-lt}
use native.Mathlib.Omega.{arith}
use lib.Arith.{digits_div, digits_mod}
use lib.IntN.{◌+ℤ◌, nat_abs}
use Rattle.group_block.specs.Kind.{cap}
use Rattle.group_block.proofs.Laws.{cap_pos}
use Rattle.signed_block.specs.Signed.{top, sign_bits, sign_read}
use Rattle.signed_slots.specs.Slots.{ones, lows, sums, over, rep, sums_of, over_of}
use Rattle.signed_slots.proofs.Lanes.{lanes_lt, lanes_parts, sums_small, over_small, sums_lanes, over_lanes}
use Rattle.signed_slots.proofs.Slot.{sum_held, sum_over}

-- by halves
module _ (n w v : ℕ) where
  pub sums_halves : sums_of (suc n) w v ≡ sums_of n (w / cap n) (v / cap n) * cap n + sums_of n (w % cap n) (v % cap n)
  unfolding sums_of cap
  sums_halves = let t : 2 ^ suc n ≡ 2 ^ n + 2 ^ n = omega arith in rw t (lanes_parts sums sums_lanes (2 ^ n) (2 ^ n) w v)

  pub over_halves : over_of (suc n) w v ≡ over_of n (w / cap n) (v / cap n) * cap n + over_of n (w % cap n) (v % cap n)
  unfolding over_of cap
  over_halves = let t : 2 ^ suc n ≡ 2 ^ n + 2 ^ n = omega arith in rw t (lanes_parts over over_lanes (2 ^ n) (2 ^ n) w v)

  pub sums_lt : w < cap n → v < cap n → sums_of n w v < cap n
  unfolding sums_of cap
  sums_lt h k = lanes_lt sums sums_lanes (λ x y. sums_small x y) (2 ^ n) w v h k

  pub over_lt : w < cap n → v < cap n → over_of n w v < cap n
  unfolding over_of cap
  over_lt h k = lanes_lt over over_lanes (λ x y. over_small x y) (2 ^ n) w v h k

-- the halves of the words, as shifts and masks take them
parts : (n a b : ℕ) {s : ℕ} → s ≡ a * cap n + b → b < cap n → (s / cap n ≡ a) × (s % cap n ≡ b)
parts n a b e h = rw e (digits_div a h, digits_mod a h)

module _ (n w v : ℕ) where
  pub sums_parts : (sums_of (suc n) w v / cap n ≡ sums_of n (w / cap n) (v / cap n)) × (sums_of (suc n) w v % cap n ≡ sums_of n (w % cap n) (v % cap n))
  sums_parts = parts n _ _ (sums_halves n w v) (sums_lt n (w % cap n) (v % cap n) (mod-lt w (cap_pos n)) (mod-lt v (cap_pos n)))

  pub over_parts : (over_of (suc n) w v / cap n ≡ over_of n (w / cap n) (v / cap n)) × (over_of (suc n) w v % cap n ≡ over_of n (w % cap n) (v % cap n))
  over_parts = parts n _ _ (over_halves n w v) (over_lt n (w % cap n) (v % cap n) (mod-lt w (cap_pos n)) (mod-lt v (cap_pos n)))

-- eight slots: the code's words
module _ (w v : ℕ) where
  pub sums_eight : sums_of 3 w v ≡ sums ones lows w v
  unfolding sums_of rep
  sums_eight = refl

  pub over_eight : over_of 3 w v ≡ over ones lows w v
  unfolding over_of rep
  over_eight = refl

-- one slot: it is over exactly where it does not hold the sum, and has the sum's bits where it does
module _ (x y : ℕ) (h : x < 256) (k : y < 256) where
  pub slot_held : over_of 0 x y ≡ 0
      → (nat_abs (sign_read 0 x +ℤ sign_read 0 y) < top 0) × (sums_of 0 x y ≡ sign_bits 0 (sign_read 0 x +ℤ sign_read 0 y))
  unfolding sums_of over_of rep
  slot_held e = sum_held x y h k e

  pub slot_over : (over_of 0 x y ≡ 0 → ⊥) → top 0 ≤ nat_abs (sign_read 0 x +ℤ sign_read 0 y)
  unfolding over_of rep
  slot_over e = sum_over x y h k e
