use mathlib.Core.Path.{refl}
use native.Mathlib.Omega.{arith}
use Rattle.laws.proofs.Shifts.{one_shl}
use lib.Pow.{pow_mono, pow_pos}
use Rattle.group_layout.proofs.slots.Goals as goal

pub returns : goal.returns
returns c = let h = c.args.half in rw (one_shl 8 h (omega arith)) (record { value = refl; lower_bound = (pow_pos h, pow_mono {i = h} {j = 2} c.requires) })
