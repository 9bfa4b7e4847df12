use native.Mathlib.Omega.{arith}
use Rattle.group_levels.proofs.Levels.{levels_le}
use Rattle.group_levels.proofs.Byte.{any_pair_half_lem, any_level, bits_widest}
use Rattle.group_levels.proofs.widest_level.Goals as goal

pub overflow_add-result : goal.overflow_add-result
overflow_add-result c = let m = c.args.merge in omega (arith, any_pair_half_lem m, levels_le 3 m 2)

pub overflow_add-result-2 : goal.overflow_add-result-2
overflow_add-result-2 c = let m = c.args.merge in omega (arith, any_level m, levels_le 3 m 3)

pub overflow_cast-result : goal.overflow_cast-result
overflow_cast-result c = let m = c.args.merge in omega (arith, any_level m, levels_le 3 m 3)

pub returns : goal.returns
returns c = bits_widest c.args.merge c.requires
