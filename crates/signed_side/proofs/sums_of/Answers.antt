use Rattle.std.proofs.Common.{refl, ◌∙◌, arith, length-set}
use Rattle.signed_side.proofs.Sums.{sums-turn}
use Rattle.signed_side.proofs.sums_of.Goals as goal

pub loop-i-init : goal.loop-i-init
loop-i-init c = (omega arith, refl, λ z i h. absurd (omega arith))

pub loop-i-preserved : goal.loop-i-preserved
loop-i-preserved c = let l = c.loop-i in
    let a = c.args in (
      omega arith,
      length-set l.bytes l.i c.sum-s.result.byte ∙ l.invariant.1,
      sums-turn a.counts.now a.source.now l.i l.bad a.minus l.bytes c.sum-s.result.byte c.sum-s.result.bad (omega arith) l.invariant.2 c.sum-s.ensures,
    )

pub returns : goal.returns
returns c = λ h i k. c.loop-i.invariant.2 h i (omega arith)
