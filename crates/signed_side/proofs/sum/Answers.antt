use Rattle.std.proofs.Common.{ap, ◌∙◌, arith}
use lib.Bits.{bit_or}
use Rattle.signed_side.specs.Side.{times}
use Rattle.signed_side.proofs.Sums.{or_above, unmarked, slot_held}
use Rattle.signed_side.proofs.sum.Goals as goal

pub returns : goal.returns
returns c = λ h.
    let a = c.args in
    let p = or_above (bit_or c.over.result c.mark.result) c.mark-2.result in
    let q = or_above c.over.result c.mark.result in
    slot_held a.minus a.slot a.source (omega arith) (omega arith)
    (unmarked 255 a.slot c.mark.result c.mark.ensures (omega (arith, h, p.0, q.1)), unmarked 255 a.source c.mark-2.result c.mark-2.ensures (omega (arith, h, p.1)))
    c.complement-a.result c.times-b.result c.wrapping_add_u8.result c.complement-2.result
    c.complement-a.ensures (c.times-b.ensures ∙ ap (times a.minus) c.complement.ensures) c.wrapping_add_u8.ensures.value c.complement-2.ensures
    (c.over.ensures (omega (arith, h, p.0, q.0)))
