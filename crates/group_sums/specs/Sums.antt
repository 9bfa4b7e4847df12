-- Whether a counter holds a sum. The code's own terms: the count bytes of a group taken as one number, and its merge byte.
use Rattle.std.specs.Prelude.{ℕ, ◌+◌, ◌≡◌, Bool, false, ltb, Ok}
use Rattle.group_block.specs.Block.{cap, block, counter_at}
use Rattle.group_block.specs.Sum.{add}
use Rattle.group_block.specs.Passed.{summed}

-- whether the counter of slot k holds its value with an amount a added
abbrev pub holds_at : ℕ → ℕ → ℕ → ℕ → Bool
holds_at w m k a = ltb ((counter_at (block 3 w m) k).value + a) (cap (counter_at (block 3 w m) k).level)

-- it does not
abbrev pub NotHeld : ℕ → ℕ → ℕ → ℕ → Type 0
NotHeld w m k a = holds_at w m k a ≡ false

-- what an addition that the counter holds leaves: the layout, another number, and the counter's value with the amount
abbrev pub Stays : ℕ → ℕ → ℕ → ℕ → ℕ → ℕ → Type 0
Stays w m k a word value = (Ok (record { word = word; merge = m }) ≡ summed (add (block 3 w m) k a)) × (value ≡ (counter_at (block 3 w m) k).value + a)
