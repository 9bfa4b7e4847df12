-- Blocks and sums as the code passes them, by count bytes as one number and merge bits. The code's own terms; no public contract cites
-- them.
use Rattle.std.specs.Prelude.{ℕ, ◌/◌, ◌%◌, ◌^◌, ◌<◌, ◌≡◌, true, Result, Ok, Err, IfOk}
use Rattle.group_layout.specs.Layout.{marks, layout, valid}
use Rattle.group_block.specs.Kind.{Kind, ordinary}
use Rattle.group_block.specs.Block.{cap, shape, number_of, all_clean, block_as}
use Rattle.group_block.specs.Sum.{SumOf, Sum, fits, over}
use Rattle.group_block.specs.declared.Packed.{Packed}

-- a Sum: a block's count bytes as one number and its merge bits, or the figure that is made of the sum
unfoldable pub summed_as : (K : Kind) {F : Type 0} → (K.Value → F) → {n : ℕ} → SumOf K n → Result Packed F
summed_as K made (fits b) = Ok (record { word = number_of b; merge = marks (shape b) })
summed_as K made (over s) = Err (made s)

-- and the Sum that is passed so
unfoldable pub sum_as : (K : Kind) {F : Type 0} → (F → K.Value) → (n : ℕ) → Result Packed F → SumOf K n
sum_as K means n (Ok p) = fits (block_as K n p.word p.merge)
sum_as K means n (Err s) = over (means s)

-- an ordinary meter's figures are its sums
abbrev pub summed : {n : ℕ} → Sum n → Result Packed ℕ
summed x = summed_as ordinary (λ (s : ℕ). s) x

abbrev pub sum_of : (n : ℕ) → Result Packed ℕ → Sum n
sum_of n s = sum_as ordinary (λ (s : ℕ). s) n s

-- the halves of a block that is not merged
unfoldable pub left_half : ℕ → ℕ → ℕ → Packed
left_half n w m = record { word = w % cap n; merge = m % 2 ^ (2 ^ n) }

unfoldable pub right_half : ℕ → ℕ → ℕ → Packed
right_half n w m = record { word = w / cap n; merge = m / 2 ^ (2 ^ n) }

-- count bytes, taken as one number, and merge bits of a block of level n
abbrev pub Sane : ℕ → ℕ → ℕ → Type 0
Sane n w m = (w < cap n) × (valid n m ≡ true)

-- what the code passes is a block's count bytes, each counter's those of a value, and valid merge bits, unless it is a sum
abbrev pub AptAs : Kind → {F : Type 0} → ℕ → Result Packed F → Type 0
AptAs K n s = IfOk s (λ p. Sane n p.word p.merge × (all_clean K (layout n p.merge) p.word ≡ true))
