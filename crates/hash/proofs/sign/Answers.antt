use mathlib.Core.Path.{ap}
use Prim.Native.Nat.{ℕ, ◌/◌, ◌^◌}
use lib.Bits.{and_mask}
use lib.Dec.{eqb}
use Rattle.hash.specs.Hash.{sign_of}
use Rattle.hash.proofs.sign.Goals as goal

pub returns : goal.returns
unfolding sign_of
returns c = ap (λ (x : ℕ). eqb x 1) (and_mask (c.args.hash / 2 ^ 15) 1)
