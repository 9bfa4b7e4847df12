use native.Mathlib.Omega.{arith}
use Rattle.signed_union.specs.Slotted.{NodeOf, halves_of}
use Rattle.signed_union.proofs.Slots.{halves_slotted, nodes_small, nodes_beside}
use Rattle.signed_union.proofs.four_slots.Goals as goal
use Rattle.signed_union.proofs.four_slots.Goals.{After-two_slots-right}

-- the unions of the halves
module _ (c : After-two_slots-right) where
  left_is : NodeOf 1 c.two_slots-left.result (halves_of 1 0 c.args.b)
  left_is = rw c.halves.ensures at c.two_slots-left.ensures

  right_is : NodeOf 1 c.two_slots-right.result (halves_of 1 1 c.args.b)
  right_is = rw c.halves-2.ensures at c.two_slots-right.ensures

pub two_slots-left-requires : goal.two_slots-left-requires
two_slots-left-requires c = rw c.halves.ensures (halves_slotted 1 c.args.b c.requires 0)

pub two_slots-right-requires : goal.two_slots-right-requires
two_slots-right-requires c = rw c.halves-2.ensures (halves_slotted 1 c.args.b c.requires 1)

pub beside-sides-requires : goal.beside-sides-requires
beside-sides-requires c = (omega arith, nodes_small 1 c.args.b c.requires _ _ (left_is c) (right_is c) (omega arith))

pub formed-requires : goal.formed-requires
formed-requires c = record { fact_1 = omega arith; fact_2 = c.requires.word_in; fact_3 = c.requires.other_in; fact_4 = nodes_beside 1 c.args.b c.requires _ _ (left_is (goal.at.formed-requires c).After-two_slots-right) (right_is (goal.at.formed-requires c).After-two_slots-right) c.beside-sides.result c.beside-sides.ensures.a_value c.beside-sides.ensures.beside_as }
