use mathlib.Core.Path.{◌≡◌, ap, ◌∙◌}
use Prim.Native.Nat.{◌*◌, ◌%◌, ◌^◌, ◌<◌}
use native.Mathlib.Omega.{arith}
use lib.Bits.{bit_and, and_mask}
use Rattle.group_block.specs.Block.{cap}
use Rattle.group_sums.proofs.Places.{has_level, value_in, value_put}
use Rattle.group_sums.proofs.with_value.Goals as goal
use Rattle.group_sums.proofs.with_value.Goals.{After-most}

module _ (c : After-most) where
  word_in : c.args.word < cap 3
  unfolding cap
  word_in = omega arith

  kept_is : bit_and c.args.value c.most.result ≡ c.args.value % cap c.level_at-level.result
  unfolding cap
  kept_is = ap (bit_and c.args.value) c.most.ensures ∙ and_mask c.args.value (8 * 2 ^ c.level_at-level.result)

pub put-requires : goal.put-requires
put-requires c = let a = c.args in record { fact_1 = c.level_at-level.ensures.upper_bound; fact_2 = c.place-at.ensures.upper_bound; fact_3 = value_in a.word a.merge a.slot c.level_at-level.result c.place-at.result (word_in c) c.requires.fact_2 (has_level a.word a.merge a.slot c.level_at-level.ensures.value) c.place-at.ensures.value a.value _ (kept_is c) }

pub returns : goal.returns
returns c = let a = c.args in
    value_put a.word a.merge a.slot c.level_at-level.result c.place-at.result (word_in (goal.at.returns c).After-most) c.requires.fact_2 (has_level a.word a.merge a.slot c.level_at-level.ensures.value) c.place-at.ensures.value a.value _ (kept_is (goal.at.returns c).After-most) c.put.result c.put.ensures
