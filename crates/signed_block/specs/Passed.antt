-- Sums of a signed meter as the code passes them. The code's own terms; no public contract cites them.
use Rattle.std.specs.Prelude.{ℕ, ◌≡◌, true, Result}
use Rattle.group_layout.specs.Layout.{layout}
use Rattle.group_block.specs.declared.Packed.{Packed}
use Rattle.group_block.specs.Block.{BlockOf, all_clean, block_as}
use Rattle.group_block.specs.Sum.{SumOf}
use Rattle.group_block.specs.Passed.{summed_as, Sane}
use Rattle.signed_number.specs.declared.Signed.{Signed}
use Rattle.signed_number.specs.Number.{integer_of, signed_of}
use Rattle.signed_block.specs.Signed.{signed}

abbrev pub signed_block : (n : ℕ) → ℕ → ℕ → BlockOf signed n
signed_block n w m = block_as signed n w m

abbrev pub signed_summed : {n : ℕ} → SumOf signed n → Result Packed Signed
signed_summed x = summed_as signed signed_of x

-- count bytes, taken as one number, and merge bits of a block of level n, none of whose counters is minus zero
abbrev pub SignedSane : ℕ → ℕ → ℕ → Type 0
SignedSane n w m = Sane n w m × (all_clean signed (layout n m) w ≡ true)

-- zero is passed with a plus
abbrev pub Canonical : Signed → Type 0
Canonical s = s ≡ signed_of (integer_of s)
