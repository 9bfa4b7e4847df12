use mathlib.Core.Path.{sym, ap, ◌∙◌}
use mathlib.Core.Bool.{Bool}
use Prim.Native.Nat.{◌+◌, ◌<◌}
use native.Mathlib.Omega.{arith}
use lib.IntN.{ℤ, ◌+ℤ◌, nat_abs}
use Rattle.group_block.specs.Block.{total}
use Rattle.group_block.specs.Sum.{SumOf}
use Rattle.signed_block.specs.Signed.{signed, top}
use Rattle.signed_block.specs.Passed.{signed_block, signed_summed}
use Rattle.signed_block.proofs.Counters.{signed_sums}
use Rattle.signed_nodes.specs.Nodes.{bias, Raised}
use Rattle.signed_nodes.proofs.Integers.{raised_lt, raised_next}
use Rattle.signed_nodes.proofs.Nodes.{apart_in, held_is, told_passed}
use Rattle.signed_union.proofs.united.Goals as goal
use Rattle.signed_union.proofs.united.Goals.{After-eight_slots-sides}

-- the totals of two groups that are not merged
module _ (c : After-eight_slots-sides) where
  abbrev first : ℤ
  first = total (signed_block 3 c.args.b.word c.args.b.merge)

  abbrev second : ℤ
  second = total (signed_block 3 c.args.b.other_word c.args.b.other_merge)

  first_is : Raised 3 c.eight_slots-sides.result.a first
  first_is = c.eight_slots-sides.ensures.first c.requires.fact_2

  second_is : Raised 3 c.eight_slots-sides.result.b second
  second_is = c.eight_slots-sides.ensures.second c.requires.fact_3

  first_in : nat_abs first < top 2 + top 2
  first_in = apart_in 2 _ _ c.requires.fact_1.word_in c.requires.fact_2

  second_in : nat_abs second < top 2 + top 2
  second_in = apart_in 2 _ _ c.requires.fact_1.other_in c.requires.fact_3

pub overflow_add-sides : goal.overflow_add-sides
unfolding bias top
overflow_add-sides c = let r = c.eight_slots-sides.result in
    omega (arith, raised_lt 3 r.a (first (goal.at.overflow_add-sides c).After-eight_slots-sides) (first_is (goal.at.overflow_add-sides c).After-eight_slots-sides), raised_lt 3 r.b (second (goal.at.overflow_add-sides c).After-eight_slots-sides) (second_is (goal.at.overflow_add-sides c).After-eight_slots-sides), first_in (goal.at.overflow_add-sides c).After-eight_slots-sides, second_in (goal.at.overflow_add-sides c).After-eight_slots-sides)

pub returns-then-sides : goal.returns-then-sides
unfolding top
returns-then-sides c = let sum = raised_next 3 _ _ _ _ (first_is (goal.at.returns-then-sides c).After-eight_slots-sides) (second_is (goal.at.returns-then-sides c).After-eight_slots-sides) in
    told_passed _ _ _ (held_is 3 (first (goal.at.returns-then-sides c).After-eight_slots-sides +ℤ second (goal.at.returns-then-sides c).After-eight_slots-sides) c.held-sum.result (rw sum at c.held-sum.ensures) (omega (arith, signed_sums.triangle (first (goal.at.returns-then-sides c).After-eight_slots-sides) (second (goal.at.returns-then-sides c).After-eight_slots-sides), first_in (goal.at.returns-then-sides c).After-eight_slots-sides, second_in (goal.at.returns-then-sides c).After-eight_slots-sides)))
    ∙ ap (λ (x : SumOf signed 3). signed_summed x) (sym (c.eight_slots-sides.ensures.one c.requires.fact_2 c.requires.fact_3 c.if-sides.true))

pub returns : goal.returns
returns c = let r = c.eight_slots-sides.result in
    told_passed _ _ _
    (ap (λ (o : Bool). record { over = o; word = r.word; merge = r.merge }) (sym c.if-sides.false)
    ∙ c.eight_slots-sides.ensures.both c.requires.fact_2 c.requires.fact_3 c.if-sides.false)
