use Rattle.std.proofs.Common.{◌≡◌, Bool, true, false, cond, refl, arith, eqb-true}
use mir.Val.{bool_byte}
use Rattle.signed_side.proofs.Sums.{zeros_turn}
use Rattle.signed_side.proofs.Groups.{side_accepted}
use Rattle.signed_side.proofs.clean.Goals as goal

byte_is : (b : Bool) → bool_byte b ≡ cond b 1 0
byte_is true = refl
byte_is false = refl

pub loop-i-init : goal.loop-i-init
loop-i-init c = (omega arith, λ z i h. absurd (omega arith))

pub loop-i-preserved : goal.loop-i-preserved
loop-i-preserved c = let l = c.loop-i in
    let a = c.args in
    (omega arith, zeros_turn a.counts.now a.source.now l.i l.bad _ _ l.invariant.1 (byte_is _) (byte_is _))

pub returns : goal.returns
returns c = λ h.
    let l = c.loop-i in
    side_accepted 8 c.args.counts.now c.args.source.now c.requires.fact_1 c.requires.fact_2
    (λ i. (c.type_inv.counts i).fits) (λ i. (c.type_inv.source i).fits)
    (λ i g. l.invariant.1 (eqb-true l.bad 0 h) i (omega arith))
