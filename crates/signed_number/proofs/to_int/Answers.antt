use Prim.Native.Nat.{ℕ, zero, suc, ◌<◌, ◌^◌}
use native.Mathlib.Omega.{arith}
use lib.IntN.{pos, neg_ℤ, +ℤ_idl}
use mir.Syntax.{w64}
use mir.Val.{SFits}
use mir.Facts.{to_z-of_z, to_z_pos}
use Rattle.signed_number.specs.Number.{times_sign}
use Rattle.signed_number.proofs.to_int.Goals as goal

negation_fits : (m : ℕ) → m < 2 ^ 63 → SFits w64 (neg_ℤ (pos m))
negation_fits zero h = record { sfits = omega arith }
negation_fits (suc m) h = record { sfits = omega arith }

pub overflow_sub-result : goal.overflow_sub-result
overflow_sub-result c = let m = c.args.magnitude in
    rw (to_z_pos w64 {n = m} c.requires, +ℤ_idl (neg_ℤ (pos m))) (negation_fits m c.requires)

pub returns-then-minus : goal.returns-then-minus
unfolding times_sign
returns-then-minus c = let m = c.args.magnitude in
    rw (to_z_pos w64 {n = m} c.requires, +ℤ_idl (neg_ℤ (pos m)), c.if-minus.true) (to_z-of_z {w = w64} {z = neg_ℤ (pos m)} (negation_fits m c.requires))

pub returns-else-minus : goal.returns-else-minus
unfolding times_sign
returns-else-minus c = rw c.if-minus.false (to_z_pos w64 {n = c.args.magnitude} c.requires)
