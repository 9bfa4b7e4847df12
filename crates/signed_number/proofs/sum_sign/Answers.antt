use mathlib.Core.Path.{◌≡◌, refl}
use mathlib.Core.Bool.{Bool, true, false, cond, not, beq, ◌&&◌}
use lib.Dec.{ltb}
use Rattle.signed_number.proofs.sum_sign.Goals as goal

-- the one sign turned where they differ is the other
turned : (a b less : Bool) → not (beq a (not (beq a b) && less)) ≡ cond less b a
turned true true true = refl
turned true true false = refl
turned true false true = refl
turned true false false = refl
turned false true true = refl
turned false true false = refl
turned false false true = refl
turned false false false = refl

pub returns : goal.returns
returns c = let s = c.args in turned s.a.minus s.b.minus (ltb s.a.magnitude s.b.magnitude)
