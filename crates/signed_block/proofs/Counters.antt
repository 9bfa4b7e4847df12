-- The counters of a signed meter by sign and magnitude, and the sizes of a block's.
pub use Rattle.signed_block.specs.Counters.{top_twice, top_pos, top_double, signed_sums, read_minus, bits_neg, signed_codes, signed_coded}
use mathlib.Core.Path.{◌≡◌}
use mathlib.Core.Bool.{true, false}
use Prim.Native.Nat.{ℕ, ◌+◌, ◌-◌, ◌*◌, ◌^◌, ◌≤◌, ◌<◌}
use native.Mathlib.Omega.{arith}
use lib.Pow.{pow_mono}
use Rattle.group_layout.specs.Layout.{layout}
use Rattle.group_layout.specs.Merged.{is_merged}
use Rattle.group_block.specs.Kind.{cap}
use Rattle.group_block.specs.Block.{total, sizes}
use Rattle.group_block.proofs.Laws.{block_fits_of, block_merged_of}
use Rattle.group_block.proofs.Adding.{total_size, sizes_lt}
use Rattle.signed_number.specs.declared.Signed.{Signed}
use Rattle.signed_number.specs.Number.{times_sign, integer_of}
use Rattle.signed_number.proofs.Integers.{minus_nonzero, size_is}
use Rattle.signed_block.specs.Signed.{top, sign_bits, sign_read, signed}
use Rattle.signed_block.specs.Passed.{signed_block, Canonical}

-- a wider counter holds more; none holds more than 63 bits
pub top_mono : (m n : ℕ) → m ≤ n → top m ≤ top n
unfolding top
top_mono m n h = pow_mono {i = 8 * 2 ^ m - 1} {j = 8 * 2 ^ n - 1} (omega (arith, pow_mono {i = m} {j = n} h))

pub top_most : (n : ℕ) → n ≤ 3 → top n ≤ 2 ^ 63
unfolding top
top_most n h = top_mono n 3 h

-- a counter in a half of a group holds at most 31 bits
pub top_half : (n : ℕ) → n ≤ 2 → top n ≤ 2 ^ 31
unfolding top
top_half n h = top_mono n 2 h

-- the bits of a value by its sign and its magnitude
pub bits_minus : (n : ℕ) (s : Signed) → Canonical s → s.minus ≡ true → sign_bits n (integer_of s) ≡ top n + s.magnitude
unfolding times_sign
bits_minus n s c e = rw e (bits_neg n s.magnitude (minus_nonzero s c e))

pub bits_plus : (n : ℕ) (s : Signed) → s.minus ≡ false → sign_bits n (integer_of s) ≡ s.magnitude
unfolding times_sign sign_bits
bits_plus n s e = rw e

-- a block's total by sign and magnitude
pub total_small : (n w m : ℕ) → w < cap n → (s : Signed) → integer_of s ≡ total (signed_block n w m) → s.magnitude < top n
total_small n w m h s e = rw (size_is s (total (signed_block n w m)) e) (total_size signed_sums (signed_block n w m) (block_fits_of signed_codes n w m h))

-- that of one counter is what it stands for
pub total_merged : (n w m : ℕ) → is_merged (layout n m) ≡ true → sign_read n w ≡ total (signed_block n w m)
unfolding total
total_merged n w m e = rw (block_merged_of signed n w m e)

-- a block's counters have sizes that add up to 63 bits
pub sizes_in : (n w m : ℕ) → n ≤ 3 → w < cap n → sizes (signed_block n w m) < 2 ^ 63
sizes_in n w m l h = omega (arith, sizes_lt signed_sums (signed_block n w m) (block_fits_of signed_codes n w m h), top_most n l)
