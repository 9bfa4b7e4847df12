-- The sign bits of a signed group in its count bytes taken as one number, and whether a counter holds a sum. The code's own terms.
use Rattle.std.specs.Prelude.{ℕ, ◌+◌, ◌-◌, ◌*◌, ◌/◌, ◌%◌, ◌≡◌, Bool, cond, ltb, eqb, ℤ, ◌+ℤ◌, nat_abs, Ok}
use Rattle.group_layout.specs.Layout.{Layout, merged, halves, layout, level_of}
use Rattle.group_block.specs.Block.{cap, counter_value, total}
use Rattle.group_block.specs.Sum.{add}
use Rattle.signed_number.specs.declared.Signed.{Signed}
use Rattle.signed_number.specs.Number.{times_sign}
use Rattle.signed_block.specs.Signed.{top}
use Rattle.signed_block.specs.Passed.{signed_block, signed_summed}

-- the sign bits of a block's counters
unfoldable pub tops : {n : ℕ} → Layout n → ℕ
tops {n} merged = top n
tops (halves {n} l r) = tops r * cap n + tops l

-- those of counters whose magnitude is not 0
unfoldable pub nonzero : {n : ℕ} → Layout n → ℕ → ℕ
nonzero {n} merged w = cond (eqb (w % top n) 0) 0 (top n)
nonzero (halves {n} l r) w = nonzero r (w / cap n) * cap n + nonzero l (w % cap n)

-- whether the counter of slot k holds its value with an amount a added
abbrev pub holds_at : ℕ → ℕ → ℕ → ℤ → Bool
holds_at w m k a = ltb (nat_abs (counter_value (signed_block 3 w m) k +ℤ a)) (top (level_of (layout 3 m) k))

-- A counter's value by its bits, raised by what its sign bit is worth, and the bits of such a value.
unfoldable pub raised : ℕ → ℕ → ℕ
raised t w = cond (ltb w t) (t + w) (t - (w - t))

unfoldable pub lowered : ℕ → ℕ → ℕ
lowered t x = cond (ltb x t) (t + (t - x)) (x - t)

-- how much may be added to such a value, or taken from it, and what is left then
unfoldable pub room : ℕ → ℕ → Bool → ℕ
room x most minus = cond minus (x - 1) (most - x)

unfoldable pub moved : ℕ → Signed → ℕ
moved x a = cond a.minus (x - a.magnitude) (x + a.magnitude)

-- what an addition that the counter holds leaves: the layout, and another number
abbrev pub Stays : ℕ → ℕ → ℕ → ℤ → ℕ → Type 0
Stays w m k a word = Ok (record { word = word; merge = m }) ≡ signed_summed (add (signed_block 3 w m) k a)

-- whether the sum of a block's counters and of another's times a sign has a magnitude that one counter of level 3 holds
abbrev pub sum_fits : Bool → ℕ → ℕ → ℕ → ℕ → Bool
sum_fits minus w m w' m' = ltb (nat_abs (total (signed_block 3 w m) +ℤ times_sign minus (total (signed_block 3 w' m')))) (top 3)
