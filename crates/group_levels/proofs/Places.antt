-- Fields of the count bytes taken as one number.
use mathlib.Core.Path.{◌≡◌, ap, ◌∙◌}
use Prim.Native.Nat.{ℕ, ◌+◌, ◌-◌, ◌*◌, ◌/◌, ◌%◌, ◌^◌, ◌≤◌}
use native.Mathlib.Nat.{mod-le, div-mul-le_self, mul-le-mul_right}
use native.Mathlib.Omega.{arith}
use lib.Pow.{pow_pos, pow_mono, ones_lt, ones_split, high}
use Rattle.group_block.specs.Block.{cap}

-- the bits of a counter of a level, and the largest value in them
pub width_le : (n : ℕ) → n ≤ 3 → (1 ≤ 8 * 2 ^ n) × (8 * 2 ^ n ≤ 64)
width_le n h = (omega (arith, pow_pos n), omega (arith, pow_mono {i = n} {j = 3} h))

pub most_is : (n : ℕ) → n ≤ 3 → (2 ^ 64 - 1) / 2 ^ (64 - 8 * 2 ^ n) ≡ cap n - 1
unfolding cap
most_is n h =
    let j = 8 * 2 ^ n in
    let e : 64 ≡ j + (64 - j) = omega (arith, (width_le n h).1) in
    let f : 2 ^ 64 - 1 ≡ (2 ^ j - 1) * 2 ^ (64 - j) + (2 ^ (64 - j) - 1) = ap (λ (i : ℕ). 2 ^ i - 1) e ∙ ones_split j (64 - j) in
    ap (λ (x : ℕ). x / 2 ^ (64 - j)) f ∙ high (2 ^ j - 1) (64 - j) (ones_lt (64 - j))

-- a field is no larger than the number
pub field_le : (w q c : ℕ) → w / 2 ^ q % c * 2 ^ q ≤ w
field_le w q c = omega (arith, mul-le-mul_right {m = w / 2 ^ q % c} {n = w / 2 ^ q} (2 ^ q) (mod-le (w / 2 ^ q) c), div-mul-le_self w (2 ^ q))
