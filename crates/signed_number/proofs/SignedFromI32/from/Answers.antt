use Rattle.std.proofs.Common.{◌≡◌, refl, ap, ◌∙◌, ◌≤◌, ◌^◌, w32, ℤ, pos, negsuc, to_z, of_z, to_z-of_z, arith}
use Rattle.std.specs.Prelude.{unsigned_abs, int_lt}
use borrow.Author.Tests.{le-ltb}
use Rattle.signed_number.specs.Number.{signed_of}
use Rattle.signed_number.proofs.SignedFromI32.from.Goals as goal

parts : (z : ℤ) → record { minus = int_lt z (pos 0); magnitude = unsigned_abs z } ≡ signed_of z
unfolding signed_of
parts (pos m) = rw (le-ltb m 0 (omega arith)) refl
parts (negsuc m) = refl

pub returns : goal.returns
returns c = let z = c.args.amount in
    let same : to_z w32 (of_z w32 z) ≡ z = to_z-of_z {w = w32} {z = z} c.ranges.amount in
    let abs : unsigned_abs (to_z w32 (of_z w32 z)) ≡ unsigned_abs z = ap unsigned_abs same in
    let e : c.from.result ≡ unsigned_abs z = c.from.ensures ∙ c.unsigned_abs.ensures.value ∙ abs in
    let small : unsigned_abs z ≤ 2 ^ 31 = omega (arith, c.unsigned_abs.ensures.value, abs, c.unsigned_abs.ensures.bound) in
    rw (same, e) (parts z, small)
