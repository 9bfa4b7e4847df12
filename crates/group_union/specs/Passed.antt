-- What the code's union asks and tests, by count bytes as one number and merge bits. The code's own terms; no public contract cites
-- them.
use Rattle.std.specs.Prelude.{ℕ, ◌+◌, ◌^◌, ◌<◌, Bool, false, ◌&&◌, eqb}
use Rattle.group_layout.specs.Layout.{marks}
use Rattle.group_block.specs.Block.{block, shape, total}
use Rattle.group_block.specs.Sum.{Sum, fits, over, unite}

-- the counters of two blocks sum up to a number of 64 bits
abbrev pub SumFits : ℕ → ℕ → ℕ → ℕ → ℕ → Type 0
SumFits n w m w' m' = total (block n w m) + total (block n w' m') < 2 ^ 64

-- whether a union is a block with these merge bits
abbrev pub keeps : {n : ℕ} → ℕ → Sum n → Bool
keeps m (fits b) = eqb (marks (shape b)) m
keeps m (over s) = false

-- whether the count bytes of two blocks, taken as numbers, may be added for their union: they have one layout, and the union keeps it
abbrev pub adds_in_place : ℕ → ℕ → ℕ → ℕ → ℕ → Bool
adds_in_place n w m w' m' = eqb m m' && keeps m (unite (block n w m) (block n w' m'))
