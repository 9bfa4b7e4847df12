-- The bits of a counter of a level of a group, as the code shifts by them.
use mathlib.Core.Path.{◌≡◌}
use Prim.Native.Nat.{ℕ, ◌*◌, ◌%◌, ◌^◌, ◌≤◌}
use native.Mathlib.Omega.{arith}
use lib.Pow.{pow_pos, pow_mono}

pub width : (n : ℕ) → n ≤ 3 → (8 * 2 ^ n % 2 ^ 32 ≡ 8 * 2 ^ n) × ((1 ≤ 8 * 2 ^ n) × (8 * 2 ^ n ≤ 64))
width n h = let k : 2 ^ n ≤ 8 = pow_mono {i = n} {j = 3} h in (omega arith, (omega (arith, pow_pos n), omega arith))
