use mathlib.Core.Path.{◌≡◌, sym, ap, ◌∙◌}
use mathlib.Core.Bool.{true, false}
use Prim.Native.Nat.{ℕ, ◌+◌, ◌-◌, ◌*◌, ◌/◌, ◌%◌, ◌^◌, ◌≤◌, ◌<◌}
use native.Mathlib.Nat.{mod-eq_of_lt, mod-lt}
use native.Mathlib.Omega.{arith}
use borrow.Author.Tests.{lt-ltb, le-ltb}
use lib.Dec.{ltb}
use Rattle.group_block.specs.declared.Counter.{Counter}
use Rattle.group_block.specs.Block.{cap, block, counter_at}
use Rattle.group_block.proofs.Laws.{cap_pos}
use Rattle.group_sums.specs.Sums.{holds_at}
use Rattle.group_sums.proofs.Places.{has_level, counter_at_lem, sum_in, in_place_is}
use Rattle.group_sums.proofs.add_in_place.Goals as goal
use Rattle.group_sums.proofs.add_in_place.Goals.{After-most}

module _ (c : After-most) where
  word_in : c.args.word < cap 3
  unfolding cap
  word_in = omega arith

  level_is : (counter_at (block 3 c.args.word c.args.merge) c.args.slot).level ≡ c.level_at-level.result
  level_is = has_level c.args.word c.args.merge c.args.slot c.level_at-level.ensures.value

  -- the counter's value is below its cap
  value_lt : c.value_at-before.result < cap c.level_at-level.result
  value_lt = omega (arith, c.value_at-before.ensures, mod-lt (c.args.word / 2 ^ c.place-at.result) (cap_pos c.level_at-level.result))

  value_is : (counter_at (block 3 c.args.word c.args.merge) c.args.slot).value ≡ c.value_at-before.result
  value_is =
      ap (λ (x : Counter). x.value)
      (counter_at_lem c.args.word c.args.merge c.args.slot c.level_at-level.result c.place-at.result word_in c.requires.fact_2 level_is c.place-at.ensures.value)
      ∙ sym c.value_at-before.ensures

  holds_is : holds_at c.args.word c.args.merge c.args.slot c.args.amount ≡ ltb (c.value_at-before.result + c.args.amount) (cap c.level_at-level.result)
  holds_is = rw (value_is, level_is)

  holds_not : c.most.result - c.value_at-before.result < c.args.amount → holds_at c.args.word c.args.merge c.args.slot c.args.amount ≡ false
  holds_not r =
      holds_is ∙ le-ltb (c.value_at-before.result + c.args.amount) (cap c.level_at-level.result) (omega (arith, c.most.ensures, value_lt))

  -- where the counter holds the sum
  module _ (fits : c.args.amount ≤ c.most.result - c.value_at-before.result) where
    small : c.args.word / 2 ^ c.place-at.result % cap c.level_at-level.result + c.args.amount < cap c.level_at-level.result
    small = omega (arith, fits, c.value_at-before.ensures, c.most.ensures, value_lt)

    holds_sum : holds_at c.args.word c.args.merge c.args.slot c.args.amount ≡ true
    holds_sum =
        holds_is ∙ lt-ltb (c.value_at-before.result + c.args.amount) (cap c.level_at-level.result) (omega (arith, c.most.ensures, value_lt))

    in_word : c.args.word + c.args.amount * 2 ^ c.place-at.result < 2 ^ 64
    in_word = sum_in c.args.word c.args.merge c.args.slot c.level_at-level.result c.place-at.result word_in c.requires.fact_2 level_is c.place-at.ensures.value c.args.amount small

    shifted : c.args.amount * 2 ^ c.place-at.result % 2 ^ 64 ≡ c.args.amount * 2 ^ c.place-at.result
    shifted = mod-eq_of_lt {n = c.args.amount * 2 ^ c.place-at.result} {m = 2 ^ 64} (omega (arith, in_word))

pub overflow_sub-room : goal.overflow_sub-room
overflow_sub-room c = omega (arith, value_lt c, c.most.ensures)

pub returns-then-room-amount : goal.returns-then-room-amount
returns-then-room-amount c = record { held_value = sym (holds_not (goal.at.returns-then-room-amount c).After-most c.if-room-amount.true); stays = tt }

pub overflow_add-sum : goal.overflow_add-sum
overflow_add-sum c = omega (arith, shifted (goal.at.overflow_add-sum c).After-most c.if-room-amount.false, in_word (goal.at.overflow_add-sum c).After-most c.if-room-amount.false)

pub returns : goal.returns
returns c = let fits = c.if-room-amount.false in record {
  held_value = sym (holds_sum (goal.at.returns c).After-most fits);
  stays = (
    rw (shifted (goal.at.returns c).After-most fits)
        (in_place_is c.args.word c.args.merge c.args.slot c.level_at-level.result c.place-at.result (word_in (goal.at.returns c).After-most) c.requires.fact_2 (level_is (goal.at.returns c).After-most) c.place-at.ensures.value c.args.amount (small (goal.at.returns c).After-most fits) c.requires.fact_1),
    ap (λ (x : ℕ). x + c.args.amount) (sym (value_is (goal.at.returns c).After-most)),
  );
}
