-- Which half of a block a slot is in, by the slot's number: block i of level n has the slots s with s / 2 ^ n = i.
use mathlib.Core.Path.{◌≡◌, sym, ◌∙◌}
use mathlib.Core.Bool.{true, false}
use mathlib.Core.Logic.{◌⊎◌, inl, inr}
use Prim.Native.Nat.{ℕ, suc, ◌+◌, ◌-◌, ◌*◌, ◌/◌, ◌%◌, ◌^◌, ◌<◌}
use native.Mathlib.Nat.{add_comm, mod-lt}
use native.Mathlib.Numerals.{add-one}
use native.Mathlib.Decide.{dec_lt}
use native.Mathlib.Omega.{arith}
use borrow.Author.Tests.{lt-ltb, le-ltb}
use lib.Dec.{ltb}
use lib.Pow.{pow_pos, mod-pow-add, shr-shr}

pub half : (s n : ℕ) → s / 2 ^ suc n ≡ s / 2 ^ n / 2
half s n = rw (← add-one n) (sym (shr-shr s n 1))

low : (s n : ℕ) → s % 2 ^ suc n ≡ s / 2 ^ n % 2 * 2 ^ n + s % 2 ^ n
low s n = rw (← add-one n, add_comm n 1) (mod-pow-add s 1 n)

pub record InLeft (s n i : ℕ) : Type 0 where
  pub is : s / 2 ^ n ≡ 2 * i
  pub test : ltb (s % 2 ^ suc n) (2 ^ n) ≡ true
  pub place : s % 2 ^ suc n ≡ s % 2 ^ n

pub record InRight (s n i : ℕ) : Type 0 where
  pub is : s / 2 ^ n ≡ 2 * i + 1
  pub test : ltb (s % 2 ^ suc n) (2 ^ n) ≡ false
  pub place : s % 2 ^ suc n - 2 ^ n ≡ s % 2 ^ n

pub by_half : (s n i : ℕ) → s / 2 ^ suc n ≡ i → InLeft s n i ⊎ InRight s n i
by_half s n i e =
    let h : s / 2 ^ n / 2 ≡ i = sym (half s n) ∙ e in
    let l : s % 2 ^ n < 2 ^ n = mod-lt s (pow_pos n) in
    elim (dec_lt 0 (s / 2 ^ n % 2)) [
      | yes p ↦
          let odd : s / 2 ^ n % 2 ≡ 1 = omega arith in
          let at : s % 2 ^ suc n ≡ 2 ^ n + s % 2 ^ n = rw odd at (low s n) ∙ omega arith in
          inr (record { is = omega arith; test = le-ltb (s % 2 ^ suc n) (2 ^ n) (omega arith); place = omega arith })
      | no p ↦
          let even : s / 2 ^ n % 2 ≡ 0 = omega arith in
          let at : s % 2 ^ suc n ≡ s % 2 ^ n = rw even at (low s n) ∙ omega arith in
          inl (record { is = omega arith; test = lt-ltb (s % 2 ^ suc n) (2 ^ n) (omega arith); place = at })
    ]
