use mathlib.Core.Path.{ap, ap₂}
use Prim.Native.Nat.{ℕ, ◌*◌}
use native.Mathlib.Omega.{arith}
use lib.Bits.{bit_or}
use Rattle.signed_slots.specs.Slots.{sums}
use Rattle.signed_slots.proofs.Unions.{minus_product}
use Rattle.signed_slots.proofs.sums.Goals as goal

pub overflow_mul-result : goal.overflow_mul-result
overflow_mul-result c = let a = c.args in
    let e = c.minus.ensures in
    let t = minus_product a.word a.source in
    omega arith

pub returns : goal.returns
unfolding sums
returns c = ap₂ bit_or c.size.ensures (ap (λ (x : ℕ). x * 128) c.minus.ensures)
