use Rattle.std.proofs.Common.{rules, refl}
use Rattle.geometry.specs.Geometry.{one_of_powers, valid_width, stride}
use Rattle.test_group.proofs.update.Goals as goal

pub update_one-found-requires-clause-fact_1 : goal.update_one-found-requires-clause-fact_1
unfolding valid_width one_of_powers
update_one-found-requires-clause-fact_1 c = refl

pub update_one-found-requires-clause-fact_2 : goal.update_one-found-requires-clause-fact_2
unfolding stride
update_one-found-requires-clause-fact_2 c = search rules
