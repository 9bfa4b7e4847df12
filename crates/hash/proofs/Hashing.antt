-- Laws of the hash.
use mathlib.Core.Path.{◌≡◌, sym, ap, ◌∙◌}
use Prim.Native.Nat.{ℕ, ◌+◌, ◌-◌, ◌*◌, ◌/◌, ◌%◌, ◌^◌, ◌≤◌, ◌<◌}
use mathlib.Core.List.{List}
use native.Mathlib.Nat.{mul_comm, mul-le-mul, le-mul_of_pos_right, mul-div-mul_right, div-lt_iff_lt-mul, div-mul_cancel, dvd_of_mod-eq-zero}
use native.Mathlib.Decide.{dec_lt}
use native.Mathlib.Numerals.{add-one}
use native.Mathlib.Omega.{arith}
use lib.ListN.{length, get_or, drop, drop_of_length-le}
use lib.Seq.{drop-cons}
use Rattle.hash.specs.Hash.{fnv_step, fnv, slot_of}

-- A run of a hash, alone or beside others: what is left of the bytes goes on from the state that those before left. One byte more, and the end.
module _ (s : List ℕ) (i x t : ℕ) (inv : fnv x (drop i s) ≡ t) where
  pub run_turn : (y : ℕ) → i < length s → y ≡ fnv_step x (get_or s i 0) → fnv y (drop (i + 1) s) ≡ t
  unfolding fnv
  run_turn y h e = rw (e, add-one i) (rw (drop-cons s i 0 h) at inv)

  pub run_end : length s ≤ i → x ≡ t
  unfolding fnv
  run_end h = rw (drop_of_length-le s h) at inv

-- a width that divides 2 ^ 32 has its slots below it
none : (q w : ℕ) → q * w ≡ 2 ^ 32 → q ≡ 0 → ⊥
none q w e z = omega (arith, rw z at e)

shares : (w : ℕ) → 2 ^ 32 % w ≡ 0 → (2 ^ 32 / w * w ≡ 2 ^ 32) × (0 < 2 ^ 32 / w) × (0 < w)
shares w e =
    let whole : 2 ^ 32 / w * w ≡ 2 ^ 32 = div-mul_cancel w (dvd_of_mod-eq-zero w e) in (
      whole,
      elim (dec_lt 0 (2 ^ 32 / w)) [ yes p ↦ p | no n ↦ absurd (none (2 ^ 32 / w) w whole (omega arith)) ],
      elim (dec_lt 0 w) [ yes p ↦ p | no n ↦ absurd (none w (2 ^ 32 / w) (mul_comm w (2 ^ 32 / w) ∙ whole) (omega arith)) ],
    )

pub slot_lt : (h w : ℕ) → h < 2 ^ 32 → 2 ^ 32 % w ≡ 0 → slot_of h w < w
unfolding slot_of
slot_lt h w hh e =
    let s = shares w e in
    (div-lt_iff_lt-mul {k = 2 ^ 32 / w} {x = h} {y = w} s.1).1 (omega (arith, s.0, mul_comm w (2 ^ 32 / w)))

-- in such a width the slot is the high part of a product
pub slot_scaled : (h w : ℕ) → 2 ^ 32 % w ≡ 0 → h * w / 2 ^ 32 ≡ slot_of h w
unfolding slot_of
slot_scaled h w e =
    let s = shares w e in
    ap (λ (n : ℕ). h * w / n) (sym s.0) ∙ mul-div-mul_right {m = w} h (2 ^ 32 / w) s.2

pub scaled_in : (h w : ℕ) → h < 2 ^ 32 → 2 ^ 32 % w ≡ 0 → h * w < 2 ^ 64
scaled_in h w hh e =
    let s = shares w e in
    let most : w ≤ 2 ^ 32 = omega (arith, s.0, le-mul_of_pos_right {m = 2 ^ 32 / w} w s.1, mul_comm w (2 ^ 32 / w)) in
    omega (arith, mul-le-mul {n₁ = h} {m₁ = w} {n₂ = 2 ^ 32 - 1} {m₂ = 2 ^ 32} (omega arith) most)
