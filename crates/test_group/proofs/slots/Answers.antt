use Rattle.std.proofs.Common.{refl}
use Rattle.geometry.specs.Geometry.{one_of_powers, valid_width}
use Rattle.test_group.proofs.slots.Goals as goal

pub lands-requires : goal.lands-requires
unfolding valid_width one_of_powers
lands-requires c = refl

pub lands-requires-2 : goal.lands-requires-2
unfolding valid_width one_of_powers
lands-requires-2 c = refl

pub lands-requires-3 : goal.lands-requires-3
unfolding valid_width one_of_powers
lands-requires-3 c = refl

pub lands-requires-4 : goal.lands-requires-4
unfolding valid_width one_of_powers
lands-requires-4 c = refl
