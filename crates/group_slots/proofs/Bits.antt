-- Single bits of numbers: of one whose bits are all set, and of one made of a high and a low part.
use mathlib.Core.Path.{◌≡◌, ap, ◌∙◌}
use Prim.Native.Nat.{ℕ, suc, ◌+◌, ◌-◌, ◌*◌, ◌/◌, ◌%◌, ◌^◌, ◌<◌}
use native.Mathlib.Omega.{arith}
use lib.Arith.{digits_div}
use lib.Pow.{pow_pos, shr-shr, high, ones_lt, ones_split}
use Rattle.group_slots.proofs.Places.{above}

pub ones_bit : (q p : ℕ) → p < q → (2 ^ q - 1) / 2 ^ p % 2 ≡ 1
ones_bit q p h =
    let e : q ≡ suc (q - suc p) + p = omega arith in
    let f : (2 ^ q - 1) / 2 ^ p ≡ 2 ^ suc (q - suc p) - 1 =
    ap (λ (x : ℕ). (2 ^ x - 1) / 2 ^ p) e ∙ ap (λ (x : ℕ). x / 2 ^ p) (ones_split (suc (q - suc p)) p) ∙ high (2 ^ suc (q - suc p) - 1) p (ones_lt p) in
    rw f (omega (arith, pow_pos (q - suc p)))

pub low_bit : (a b q p : ℕ) → p < q → (a * 2 ^ q + b) / 2 ^ p % 2 ≡ b / 2 ^ p % 2
low_bit a b q p h = let e : q ≡ q - (1 + p) + 1 + p = omega arith in
    ap (λ (x : ℕ). (a * 2 ^ x + b) / 2 ^ p % 2) e ∙ above a b p 1 (q - (1 + p))

pub high_bit : (a b q p : ℕ) → b < 2 ^ q → (a * 2 ^ q + b) / 2 ^ (q + p) % 2 ≡ a / 2 ^ p % 2
high_bit a b q p h = rw (← shr-shr (a * 2 ^ q + b) q p, digits_div a h)
