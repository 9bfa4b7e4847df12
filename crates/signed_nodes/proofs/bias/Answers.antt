use mathlib.Core.Path.{refl}
use native.Mathlib.Nat.{one-mul}
use native.Mathlib.Omega.{arith}
use Prim.Native.Nat.{◌+◌}
use lib.Pow.{shl_exact}
use Rattle.signed_nodes.specs.Nodes.{bias}
use Rattle.signed_nodes.proofs.Integers.{bias_large, bias_small}
use Rattle.signed_nodes.proofs.bias.Goals as goal

pub returns : goal.returns
unfolding bias
returns c = let n = c.args.level in rw (shl_exact {a = 1} 1 (32 + n) 64 (omega arith) (omega arith), one-mul) (record { value = refl; lower_bound = (bias_large n, bias_small n 4 c.requires) })
