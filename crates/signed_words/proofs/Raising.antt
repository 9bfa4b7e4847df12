-- A counter's value raised by what its sign bit is worth: additions to it are those of natural numbers. For any level.
use mathlib.Core.Path.{◌≡◌, sym}
use mathlib.Core.Bool.{Bool, true, false}
use Prim.Native.Nat.{ℕ, ◌+◌, ◌-◌, ◌≤◌, ◌<◌}
use native.Mathlib.Decide.{dec_lt}
use native.Mathlib.Omega.{arith}
use borrow.Author.Tests.{lt-ltb, le-ltb}
use lib.IntN.{ℤ, pos, ◌+ℤ◌, nat_abs}
use Rattle.group_block.specs.Block.{cap}
use Rattle.signed_number.specs.Number.{times_sign, integer}
use Rattle.signed_number.proofs.Raised.{Raised, raise_plus, raise_minus, raised_more, raised_less, raised_plus, raised_minus, raised_size, sunken_size}
use Rattle.signed_block.specs.Signed.{top, sign_bits, sign_read}
use Rattle.signed_block.proofs.Counters.{top_twice, top_pos, bits_neg}
use Rattle.signed_words.specs.Words.{raised, lowered, room, moved}

value_raised : (n w : ℕ) → w < cap n → Raised (top n) (raised (top n) w) (sign_read n w)
unfolding raised sign_read
value_raised n w h = elim (dec_lt w (top n)) [
  | yes l ↦ rw (lt-ltb w (top n) l) (raise_plus (top n) w)
  | no l ↦ rw (le-ltb w (top n) (omega arith)) (raise_minus (top n) (w - top n) (omega (arith, top_twice n)))
]

value_in : (n w : ℕ) → w < cap n → (0 < raised (top n) w) × (raised (top n) w < cap n)
unfolding raised
value_in n w h = elim (dec_lt w (top n)) [
  | yes l ↦ rw (lt-ltb w (top n) l) (omega (arith, top_pos n), omega (arith, top_twice n))
  | no l ↦ rw (le-ltb w (top n) (omega arith)) (omega (arith, top_twice n), omega (arith, top_twice n, top_pos n))
]

pub raised_is : (n w x : ℕ) → w < cap n → x ≡ raised (top n) w → Raised (top n) x (sign_read n w) × (0 < x) × (x < cap n)
raised_is n w x h e = rw e (value_raised n w h, (value_in n w h).0, (value_in n w h).1)

-- the counter holds the values that are raised to 1 or more, and less than all its bits have room for
module _ (n x : ℕ) (v : ℤ) (r : Raised (top n) x v) where
  pub holds : 0 < x → x < cap n → nat_abs v < top n
  holds l h = elim (dec_lt x (top n)) [
    | yes k ↦ omega (arith, raised_size (top n) x v r)
    | no k ↦ omega (arith, raised_size (top n) x v r, top_twice n)
  ]

  pub holds_not : cap n ≤ x → top n ≤ nat_abs v
  holds_not h = omega (arith, raised_size (top n) x v r, top_twice n)

  pub lowered_is : lowered (top n) x ≡ sign_bits n v
  unfolding lowered sign_bits
  lowered_is = elim (dec_lt x (top n)) [
    | yes k ↦ rw (lt-ltb x (top n) k, raised_minus (top n) x v r k) (sym (bits_neg n (top n - x) (omega arith)))
    | no k ↦ rw (le-ltb x (top n) (omega arith), raised_plus (top n) x v r (omega arith))
  ]

-- an amount added to a raised value, if there is room for it; where there is none, no counter holds the sum
module _ (n x : ℕ) (v : ℤ) (r : Raised (top n) x v) (l : 0 < x) (h : x < cap n) where
  pub moved_is : (minus : Bool) (m y : ℕ) → m ≤ room x (cap n - 1) minus → y ≡ moved x (record { minus = minus; magnitude = m })
      → Raised (top n) y (v +ℤ integer minus m) × (0 < y) × (y < cap n)
  unfolding room moved times_sign
  moved_is true m y k e = rw e (raised_less (top n) x m v (omega arith) r, omega arith, omega arith)
  moved_is false m y k e = rw e (raised_more (top n) x m v r, omega arith, omega arith)

  pub no_room : (minus : Bool) (m : ℕ) → room x (cap n - 1) minus < m → top n ≤ nat_abs (v +ℤ integer minus m)
  unfolding room times_sign
  no_room true m k = sunken_size (top n) x v r m (omega arith)
  no_room false m k = holds_not n (x + m) (v +ℤ pos m) (raised_more (top n) x m v r) (omega arith)

pub room_more : (x a b : ℕ) (minus : Bool) → a ≤ b → room x a minus ≤ room x b minus
unfolding room
room_more x a b true h = omega arith
room_more x a b false h = omega arith
