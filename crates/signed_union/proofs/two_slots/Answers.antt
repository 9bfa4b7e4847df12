use native.Mathlib.Omega.{arith}
use Rattle.signed_union.proofs.Slots.{two_sides}
use Rattle.signed_union.proofs.two_slots.Goals as goal

pub formed-requires : goal.formed-requires
formed-requires c = record { fact_1 = omega arith; fact_2 = c.requires.word_in; fact_3 = c.requires.other_in; fact_4 = two_sides c.args.b _ _ c.requires c.slots_total.ensures c.slots_total-2.ensures }
