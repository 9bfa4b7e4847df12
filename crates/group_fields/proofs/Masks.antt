-- The mask of so many bits.
use mathlib.Core.Path.{◌≡◌}
use Prim.Native.Nat.{ℕ, ◌-◌, ◌*◌, ◌%◌, ◌^◌, ◌≤◌, ◌<◌}
use native.Mathlib.Omega.{arith}
use lib.Bits.{bit_and, and_mask, mask_lt}
use lib.Pow.{pow_mono}
use Rattle.laws.proofs.Shifts.{one_shl}

pub masked : (y bits : ℕ) → bits ≤ 24 → (bit_and y (1 * 2 ^ bits % 2 ^ 64 - 1) ≡ y % 2 ^ bits) × (bit_and y (1 * 2 ^ bits % 2 ^ 64 - 1) < 2 ^ 24)
masked y bits h = rw (one_shl 64 bits (omega arith)) (and_mask y bits, omega (arith, mask_lt y bits, pow_mono {i = bits} {j = 24} h))
