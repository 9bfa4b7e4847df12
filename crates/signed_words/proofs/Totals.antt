-- The sum of two groups' counters: of groups that are not one counter it has a magnitude below 2 ^ 63. And the words of blocks times a
-- sign.
use mathlib.Core.Path.{◌≡◌, refl, sym, ap, ◌∙◌}
use mathlib.Core.Bool.{Bool, true, false, not, beq}
use Prim.Native.Nat.{ℕ, ◌/◌, ◌%◌, ◌^◌, ◌<◌}
use native.Mathlib.Omega.{arith}
use borrow.Author.Tests.{lt-ltb}
use lib.IntN.{pos, ◌+ℤ◌, nat_abs, neg_ℤ-neg_ℤ}
use Rattle.group_layout.specs.Layout.{marks, layout, valid}
use Rattle.group_block.specs.Block.{cap, shape, number_of, all_clean, block_as, total}
use Rattle.group_block.proofs.Laws.{word_clean, block_is_of, block_fits_of, marks_block_of, shape_fill_of}
use Rattle.group_sums.proofs.Places.{bit_total_of}
use Rattle.signed_number.specs.Number.{times_sign, integer}
use Rattle.signed_number.proofs.Integers.{triangle, abs_times}
use Rattle.signed_block.specs.Signed.{top, signed, times_block}
use Rattle.signed_block.specs.Passed.{signed_block}
use Rattle.signed_block.proofs.Counters.{signed_codes, signed_coded}
use Rattle.signed_block.proofs.Times.{times_shape, times_fits}
use Rattle.signed_words.specs.Words.{sum_fits}

-- a sign times a sign and a magnitude
pub times_integer : (a b : Bool) (m : ℕ) → integer (not (beq a b)) m ≡ times_sign a (integer b m)
unfolding times_sign
times_integer true true m = sym (neg_ℤ-neg_ℤ (pos m))
times_integer true false m = refl
times_integer false true m = refl
times_integer false false m = refl

pub halves_fit : (minus : Bool) (w m w' m' : ℕ) → w < cap 3 → w' < cap 3 → m / 8 % 2 ≡ 0 → m' / 8 % 2 ≡ 0 → sum_fits minus w m w' m' ≡ true
unfolding top
halves_fit minus w m w' m' h k z z' =
    let x = total (signed_block 3 w m) in
    let y = times_sign minus (total (signed_block 3 w' m')) in
    lt-ltb (nat_abs (x +ℤ y)) (2 ^ 63)
    (omega (arith, triangle x y, abs_times minus (total (signed_block 3 w' m')), bit_total_of signed_coded w m h z, bit_total_of signed_coded w' m' k z'))

-- the number of a block times a sign stands for that block, and its counters have bits of values
module _ (minus : Bool) (w m : ℕ) (h : w < cap 3) (v : valid 3 m ≡ true) where
  abbrev turned : ℕ
  turned = number_of (times_block minus (signed_block 3 w m))

  turned_shape : shape (times_block minus (signed_block 3 w m)) ≡ layout 3 m
  unfolding block_as
  turned_shape = times_shape minus (signed_block 3 w m) ∙ shape_fill_of signed (layout 3 m) w

  pub turned_clean : all_clean signed (layout 3 m) turned ≡ true
  turned_clean = rw turned_shape at (word_clean signed_codes (times_block minus (signed_block 3 w m)) (times_fits minus (signed_block 3 w m) (block_fits_of signed_codes 3 w m h)))

  pub turned_block : signed_block 3 turned m ≡ times_block minus (signed_block 3 w m)
  turned_block =
      rw (ap marks (times_shape minus (signed_block 3 w m)) ∙ marks_block_of signed 3 w m v) at
      (block_is_of signed_codes (times_block minus (signed_block 3 w m)) (times_fits minus (signed_block 3 w m) (block_fits_of signed_codes 3 w m h)))
