use mathlib.Core.Path.{◌≡◌, ap, ap₂, ◌∙◌}
use mathlib.Core.Bool.{Bool}
use Prim.Native.Nat.{ℕ}
use lib.IntN.{◌+ℤ◌}
use Rattle.signed_number.specs.Number.{integer, integer_of, signed_of}
use Rattle.signed_number.proofs.Integers.{sum_parts, sum_size}
use Rattle.signed_number.proofs.plus.Goals as goal

pub returns : goal.returns
returns c = let a = c.args.a in
    let b = c.args.b in
    let e : c.canonical.result ≡ signed_of (integer_of a +ℤ integer_of b) =
    c.canonical.ensures
    ∙ ap₂ (λ (m : Bool) (k : ℕ). signed_of (integer m k)) c.sum_sign.ensures c.sum_magnitude.ensures
    ∙ ap signed_of (sum_parts a.minus b.minus a.magnitude b.magnitude) in record { value = e; magnitude_bound = rw e (sum_size a b) }
