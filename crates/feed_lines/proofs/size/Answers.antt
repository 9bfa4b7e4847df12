use mathlib.Core.Path.{◌≡◌, ap}
use Prim.Native.Nat.{ℕ, ◌*◌}
use native.Mathlib.Omega.{arith}
use Rattle.geometry.specs.Geometry.{stride, size}
use Rattle.feed_lines.proofs.Heads.{fitting_shape, fitting_size}
use Rattle.feed_lines.proofs.size.Goals as goal

pub overflow_mul-result : goal.overflow_mul-result
overflow_mul-result c = record { fits = rw c.stride.ensures (omega (arith, fitting_size c.args.d c.args.w c.requires)) }

pub returns : goal.returns
unfolding size
returns c = let a = c.args in
    let f = c.requires in
    let e : a.d * c.stride.result ≡ a.d * stride a.w = ap (λ (s : ℕ). a.d * s) c.stride.ensures in record { value = e; upper_bound = (rw e (fitting_size a.d a.w f), fitting_shape a.d a.w _ f e) }
