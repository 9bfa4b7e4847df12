use mathlib.Core.Path.{ap₂}
use lib.Bits.{bit_xor}
use Rattle.signed_slots.specs.Slots.{apart}
use Rattle.signed_slots.proofs.apart.Goals as goal

pub returns : goal.returns
unfolding apart
returns c = ap₂ bit_xor c.signs.ensures c.signs-2.ensures
