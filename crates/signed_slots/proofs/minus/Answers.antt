use mathlib.Core.Path.{ap, ap₂, ◌∙◌}
use Prim.Native.Nat.{ℕ, ◌+◌}
use native.Mathlib.Omega.{arith}
use lib.Bits.{bit_and, bit_xor}
use Rattle.signed_slots.specs.Slots.{ones, lows, signs, minus}
use Rattle.signed_slots.proofs.Unions.{raised_in}
use Rattle.signed_slots.proofs.minus.Goals as goal

pub overflow_add-size : goal.overflow_add-size
overflow_add-size c = let a = c.args in
    let e = c.size.ensures in
    let t = raised_in a.word a.source (omega arith) (omega arith) in
    omega arith

pub returns : goal.returns
unfolding minus
returns c = ap₂ bit_and (ap₂ bit_xor c.signs.ensures c.past.ensures) (c.signs-2.ensures ∙ ap (λ (x : ℕ). signs ones (x + lows)) c.size.ensures)
