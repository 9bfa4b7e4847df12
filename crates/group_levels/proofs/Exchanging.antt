-- A field of a number exchanged for another by an exclusive or with both.
use mathlib.Core.Path.{◌≡◌, refl, sym, ap, ap₂, ◌∙◌}
use Prim.Native.Nat.{ℕ, zero, suc, ◌+◌, ◌*◌, ◌/◌, ◌%◌, ◌^◌, ◌<◌}
use native.Mathlib.Nat.{add-mul, zero-mul, mod-lt, div-add-mod'}
use native.Mathlib.Omega.{arith}
use lib.Bits.{bit_xor, xor_block, xor_lt, xor_zero_r}
use lib.Pow.{pow_pos}

-- twice the same exclusive or is none
bit_twice : (a b : ℕ) → a < 2 → b < 2 → bit_xor a (bit_xor a b) ≡ b
bit_twice zero b h k = refl
bit_twice (suc zero) zero h k = refl
bit_twice (suc zero) (suc zero) h k = refl
bit_twice (suc zero) (suc (suc b)) h k = absurd (omega arith)
bit_twice (suc (suc a)) b h k = absurd (omega arith)

xor_twice : (n x y : ℕ) → x < 2 ^ n → y < 2 ^ n → bit_xor x (bit_xor x y) ≡ y
xor_twice zero x y h k =
    let e : x ≡ 0 = omega arith in
    let f : y ≡ 0 = omega arith in
    rw (e, f)
xor_twice (suc n) x y h k =
    let a = x / 2 in
    let b = y / 2 in
    let r = x % 2 in
    let s = y % 2 in
    let e : x ≡ a * 2 ^ 1 + r = omega arith in
    let f : y ≡ b * 2 ^ 1 + s = omega arith in
    let t : bit_xor r s < 2 ^ 1 = xor_lt 1 r s (omega arith) (omega arith) in
    let once : bit_xor x y ≡ bit_xor a b * 2 ^ 1 + bit_xor r s = ap₂ bit_xor e f ∙ xor_block 1 a b r s (omega arith) (omega arith) in
    ap₂ bit_xor e once
    ∙ xor_block 1 a (bit_xor a b) r (bit_xor r s) (omega arith) t
    ∙ ap₂ (λ (u v : ℕ). u * 2 ^ 1 + v) (xor_twice n a b (omega arith) (omega arith)) (bit_twice r s (omega arith) (omega arith))
    ∙ sym f

-- the field of b bits from place p on
pub exchanged : (w p b v : ℕ) → v < 2 ^ b
    → bit_xor w (bit_xor (w / 2 ^ p % 2 ^ b) v * 2 ^ p) + w / 2 ^ p % 2 ^ b * 2 ^ p ≡ w + v * 2 ^ p
exchanged w p b v h =
    let a = w / 2 ^ p in
    let low = w % 2 ^ p in
    let hi = a / 2 ^ b in
    let old = a % 2 ^ b in
    let x = bit_xor old v in
    let old-lt : old < 2 ^ b = mod-lt a (pow_pos b) in
    let x_lt : x < 2 ^ b = xor_lt b old v old-lt h in
    let w-is : w ≡ a * 2 ^ p + low = sym (div-add-mod' w (2 ^ p)) in
    let a-is : a ≡ hi * 2 ^ b + old = sym (div-add-mod' a (2 ^ b)) in
    let x-is : x ≡ 0 * 2 ^ b + x = omega (arith, zero-mul (2 ^ b)) in
    let m-is : x * 2 ^ p ≡ x * 2 ^ p + 0 = omega arith in
    let field : bit_xor a x ≡ hi * 2 ^ b + v =
    ap₂ bit_xor a-is x-is ∙ xor_block b hi 0 old x old-lt x_lt ∙ ap₂ (λ (u t : ℕ). u * 2 ^ b + t) (xor_zero_r hi) (xor_twice b old v old-lt h) in
    let all : bit_xor w (x * 2 ^ p) ≡ (hi * 2 ^ b + v) * 2 ^ p + low =
    ap₂ bit_xor w-is m-is ∙ xor_block p a x low 0 (mod-lt w (pow_pos p)) (pow_pos p) ∙ ap₂ (λ (u t : ℕ). u * 2 ^ p + t) field (xor_zero_r low) in
    let before : w ≡ (hi * 2 ^ b + old) * 2 ^ p + low = w-is ∙ ap (λ (u : ℕ). u * 2 ^ p + low) a-is in
    omega (arith, all, before, add-mul (hi * 2 ^ b) v (2 ^ p), add-mul (hi * 2 ^ b) old (2 ^ p))
