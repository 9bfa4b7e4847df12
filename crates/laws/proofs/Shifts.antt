-- A one shifted in a number of so many bits.
use mathlib.Core.Path.{◌≡◌}
use Prim.Native.Nat.{ℕ, ◌*◌, ◌%◌, ◌^◌, ◌<◌}
use native.Mathlib.Nat.{one-mul, mod-eq_of_lt}
use lib.Pow.{pow_pos, pow-lt}

pub one_shl : (bits k : ℕ) → k < bits → 1 * 2 ^ k % 2 ^ bits ≡ 2 ^ k
one_shl bits k h = rw one-mul (mod-eq_of_lt {n = 2 ^ k} {m = 2 ^ bits} (pow-lt {i = k} {j = bits} h))

pub one_shl_pos : (bits k : ℕ) → k < bits → 0 < 1 * 2 ^ k % 2 ^ bits
one_shl_pos bits k h = rw (one_shl bits k h) (pow_pos k)
