use Rattle.signed_union.proofs.Slots.{slot_small}
use native.Mathlib.Omega.{arith}
use native.Mathlib.Nat.{mod-lt}
use Rattle.group_block.proofs.Laws.{cap_pos, high_lt}
use Rattle.signed_nodes.proofs.Integers.{raised_sum}
use Rattle.signed_union.proofs.slots_total.Goals as goal

pub raised-requires : goal.raised-requires
raised-requires c = record { fact_1 = omega arith; fact_2 = rw c.low_word.ensures (mod-lt c.args.word (cap_pos 0)) }

pub raised-requires-2 : goal.raised-requires-2
raised-requires-2 c = record { fact_1 = omega arith; fact_2 = rw c.high_word.ensures (high_lt 0 c.args.word c.requires) }

pub overflow_add-result : goal.overflow_add-result
overflow_add-result c = let w = c.args.word in
    let p = slot_small _ _ (rw c.low_word.ensures (mod-lt w (cap_pos 0))) c.raised.ensures in
    let q = slot_small _ _ (rw c.high_word.ensures (high_lt 0 w c.requires)) c.raised-2.ensures in
    omega arith

pub returns : goal.returns
returns c = rw (← c.low_word.ensures, ← c.high_word.ensures) (raised_sum 0 _ _ _ _ c.raised.ensures c.raised-2.ensures)
