-- Two counters side by side, and a counter that does not hold a sum. The code's own terms.
use Rattle.std.specs.Prelude.{ℕ, ◌+◌, ◌/◌, ◌%◌, ◌^◌, ◌≤◌, ℤ, ◌+ℤ◌, nat_abs}
use Rattle.group_block.specs.Block.{cap, counter_value}
use Rattle.signed_block.specs.Signed.{top, sign_read}
use Rattle.signed_block.specs.Passed.{signed_block}

-- the sum of the two counters of level L side by side at a place p of count bytes taken as one number
abbrev pub both : ℕ → ℕ → ℕ → ℕ
both w L p = w / 2 ^ p % cap (L + 1)

abbrev pub twin_sum : ℕ → ℕ → ℕ → ℤ
twin_sum w L p = sign_read L (both w L p % cap L) +ℤ sign_read L (both w L p / cap L)

-- the counter of slot k, of level L, does not hold its value with an amount a added
abbrev pub Past : ℕ → ℕ → ℕ → ℕ → ℤ → Type 0
Past w m L k a = top L ≤ nat_abs (counter_value (signed_block 3 w m) k +ℤ a)
