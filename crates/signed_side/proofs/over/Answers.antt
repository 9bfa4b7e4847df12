use Rattle.std.proofs.Common.{◌∙◌, arith}
use lib.Bits.{bit_and, bit_xor}
use Rattle.signed_side.proofs.Sums.{or_above, unmarked, no_overflow}
use Rattle.signed_side.proofs.over.Goals as goal

pub returns : goal.returns
returns c = λ h.
    let a = c.args in
    let s = c.wrapping_add_u8-s in
    let o = or_above (bit_and (bit_xor a.a s.result) (bit_xor a.b s.result)) c.mark.result in (
      no_overflow a.a a.b s.result (omega arith) (omega arith) s.ensures.value (omega (arith, h, o.0)),
      λ e. unmarked 255 s.result c.mark.result c.mark.ensures (omega (arith, h, o.1)) (s.ensures.value ∙ e),
    )
