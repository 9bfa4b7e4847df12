use native.Mathlib.Omega.{arith}
use Rattle.group_levels.proofs.Levels.{around_le}
use Rattle.group_levels.proofs.Byte.{pair_half_lem, pair_half_group, bits_level}
use Rattle.group_levels.proofs.level_at.Goals as goal

pub overflow_add-result : goal.overflow_add-result
overflow_add-result c = let a = c.args in omega (arith, pair_half_lem a.merge a.slot, around_le 2 a.merge a.slot)

pub overflow_add-result-2 : goal.overflow_add-result-2
overflow_add-result-2 c = let a = c.args in
    omega (arith, pair_half_lem a.merge a.slot, around_le 2 a.merge a.slot, pair_half_group a.merge a.slot c.requires.fact_2, around_le 3 a.merge a.slot)

pub returns : goal.returns
returns c = let a = c.args in record { value = bits_level a.merge a.slot c.requires.fact_1 c.requires.fact_2; upper_bound = omega (arith, pair_half_group a.merge a.slot c.requires.fact_2, around_le 3 a.merge a.slot) }
