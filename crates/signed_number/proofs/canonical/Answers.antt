use mathlib.Core.Path.{◌≡◌, refl}
use mathlib.Core.Bool.{Bool, true, false}
use Prim.Native.Nat.{ℕ, zero, suc}
use Rattle.signed_number.specs.Number.{times_sign, integer, signed_of}
use Rattle.signed_number.proofs.Integers.{times_zero}
use Rattle.signed_number.proofs.canonical.Goals as goal

nonzero : (minus : Bool) (m : ℕ) → (m ≡ 0 → ⊥) → record { minus = minus; magnitude = m } ≡ signed_of (integer minus m)
unfolding times_sign signed_of
nonzero minus zero h = absurd (h refl)
nonzero true (suc m) h = refl
nonzero false (suc m) h = refl

pub returns-then-magnitude-eq0 : goal.returns-then-magnitude-eq0
unfolding signed_of
returns-then-magnitude-eq0 c = rw (c.if-magnitude-eq0.true, times_zero c.args.minus)

pub returns-else-magnitude-eq0 : goal.returns-else-magnitude-eq0
returns-else-magnitude-eq0 c = let a = c.args in nonzero a.minus a.magnitude c.if-magnitude-eq0.false
