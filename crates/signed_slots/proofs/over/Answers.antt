use mathlib.Core.Path.{ap, ap₂, ◌∙◌}
use Prim.Native.Nat.{ℕ}
use lib.Bits.{bit_and, bit_xor}
use Rattle.signed_slots.specs.Slots.{ones, signs, over}
use Rattle.signed_slots.proofs.over.Goals as goal

pub returns : goal.returns
unfolding over
returns c = ap₂ bit_and (c.signs.ensures ∙ ap (signs ones) c.total.ensures) (ap (λ (x : ℕ). bit_xor x ones) c.apart.ensures)
