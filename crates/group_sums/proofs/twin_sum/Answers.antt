use mathlib.Core.Path.{◌≡◌, ap, ap₂, ◌∙◌}
use Prim.Native.Nat.{ℕ, ◌+◌, ◌/◌, ◌%◌, ◌^◌, ◌<◌}
use native.Mathlib.Nat.{mod-lt}
use native.Mathlib.Numerals.{add-one}
use native.Mathlib.Omega.{arith}
use Rattle.group_block.specs.Block.{cap}
use Rattle.group_block.proofs.Laws.{cap_pos, cap_below, high_lt}
use Rattle.group_sums.proofs.twin_sum.Goals as goal
use Rattle.group_sums.proofs.twin_sum.Goals.{After-high_word}

module _ (c : After-high_word) where
  both_lt : c.value_at-both.result < cap (c.args.level + 1)
  both_lt = omega (arith, c.value_at-both.ensures, mod-lt (c.args.word / 2 ^ c.args.place) (cap_pos (c.args.level + 1)))

  sum_lt : c.low_word.result + c.high_word.result < 2 ^ 33
  sum_lt =
      omega (
        arith,
        c.low_word.ensures,
        c.high_word.ensures,
        mod-lt c.value_at-both.result (cap_pos c.args.level),
        high_lt c.args.level c.value_at-both.result (rw (add-one c.args.level) at both_lt),
        cap_below c.args.level c.requires.fact_1,
      )

  sum_is : c.low_word.result + c.high_word.result
      ≡ c.args.word / 2 ^ c.args.place % cap (c.args.level + 1) % cap c.args.level + c.args.word / 2 ^ c.args.place % cap (c.args.level + 1) / cap c.args.level
  sum_is =
      ap₂ (λ (x y : ℕ). x + y) (c.low_word.ensures ∙ ap (λ (x : ℕ). x % cap c.args.level) c.value_at-both.ensures)
      (c.high_word.ensures ∙ ap (λ (x : ℕ). x / cap c.args.level) c.value_at-both.ensures)

pub overflow_add-result : goal.overflow_add-result
overflow_add-result c = omega (arith, sum_lt c)

pub returns : goal.returns
returns c = record { value = sum_is c; upper_bound = sum_lt c }
