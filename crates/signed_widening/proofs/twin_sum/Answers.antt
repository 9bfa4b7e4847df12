use mathlib.Core.Path.{ap, ap₂, ◌∙◌}
use Prim.Native.Nat.{ℕ, ◌+◌, ◌/◌, ◌%◌, ◌^◌, ◌<◌}
use native.Mathlib.Nat.{mod-lt}
use native.Mathlib.Numerals.{add-one}
use native.Mathlib.Omega.{arith}
use lib.IntN.{ℤ, ◌+ℤ◌}
use Rattle.group_block.specs.Block.{cap}
use Rattle.group_block.proofs.Laws.{cap_pos, high_lt}
use Rattle.signed_number.specs.Number.{signed_of}
use Rattle.signed_block.specs.Signed.{sign_read}
use Rattle.signed_block.proofs.Counters.{top_half}
use Rattle.signed_widening.proofs.twin_sum.Goals as goal
use Rattle.signed_widening.proofs.twin_sum.Goals.{After-value_at-both}

both_lt : (v : After-value_at-both) → v.value_at-both.result < cap (v.args.level + 1)
both_lt v = omega (arith, v.value_at-both.ensures, mod-lt (v.args.word / 2 ^ v.args.place) (cap_pos (v.args.level + 1)))

pub value-requires : goal.value-requires
value-requires c = let n = c.args.level in record { fact_1 = omega arith; fact_2 = omega (arith, c.low_word.ensures, mod-lt c.value_at-both.result (cap_pos n)) }

pub value-requires-2 : goal.value-requires-2
value-requires-2 c = let n = c.args.level in record { fact_1 = omega arith; fact_2 = omega (arith, c.high_word.ensures, high_lt n c.value_at-both.result (rw (add-one n) at (both_lt (goal.at.value-requires-2 c).After-value_at-both))) }

pub plus-requires : goal.plus-requires
plus-requires c = let n = c.args.level in
    omega (arith, c.value.ensures.magnitude_bound, c.value-2.ensures.magnitude_bound, top_half n c.requires.fact_1)

pub returns : goal.returns
returns c = let n = c.args.level in
    let left = c.value.ensures.result_value ∙ ap (sign_read n) (c.low_word.ensures ∙ ap (λ (x : ℕ). x % cap n) c.value_at-both.ensures) in
    let right = c.value-2.ensures.result_value ∙ ap (sign_read n) (c.high_word.ensures ∙ ap (λ (x : ℕ). x / cap n) c.value_at-both.ensures) in record { value = c.plus.ensures.value ∙ ap₂ (λ (x y : ℤ). signed_of (x +ℤ y)) left right; magnitude_bound = omega (arith, c.plus.ensures.magnitude_bound, c.value.ensures.magnitude_bound, c.value-2.ensures.magnitude_bound, top_half n c.requires.fact_1) }
