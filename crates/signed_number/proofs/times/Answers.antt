use mathlib.Core.Path.{◌≡◌, refl, sym}
use mathlib.Core.Bool.{Bool, true, false, not, beq}
use Prim.Native.Nat.{ℕ}
use lib.IntN.{pos, neg_ℤ-neg_ℤ}
use Rattle.signed_number.specs.Number.{times_sign, integer}
use Rattle.signed_number.proofs.times.Goals as goal

-- signs that differ make minus
signs : (sign minus : Bool) (m : ℕ) → integer (not (beq sign minus)) m ≡ times_sign sign (integer minus m)
unfolding times_sign
signs true true m = sym (neg_ℤ-neg_ℤ (pos m))
signs true false m = refl
signs false true m = refl
signs false false m = refl

pub returns : goal.returns
returns c = signs c.args.sign c.args.minus
