use mathlib.Core.Path.{◌≡◌}
use Prim.Native.Nat.{◌*◌, ◌%◌, ◌^◌}
use native.Mathlib.Nat.{mod-eq_of_lt}
use native.Mathlib.Omega.{arith}
use Rattle.group_levels.proofs.Places.{width_le, most_is}
use Rattle.group_levels.proofs.most.Goals as goal
use Rattle.group_levels.proofs.most.Goals.{Start}

bits_are : (c : Start) → 8 * 2 ^ c.args.level % 2 ^ 32 ≡ 8 * 2 ^ c.args.level
bits_are c = mod-eq_of_lt {n = 8 * 2 ^ c.args.level} {m = 2 ^ 32} (omega (arith, (width_le c.args.level c.requires).1))

pub overflow_sub-result : goal.overflow_sub-result
overflow_sub-result c = omega (arith, bits_are c, (width_le c.args.level c.requires).1)

pub overflow_shr-result : goal.overflow_shr-result
overflow_shr-result c = omega (arith, bits_are c, (width_le c.args.level c.requires).0)

pub returns : goal.returns
returns c = rw (bits_are c) (most_is c.args.level c.requires)
