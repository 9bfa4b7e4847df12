use mathlib.Core.Path.{refl}
use Rattle.answer.proofs.accepted.Goals as goal

pub returns : goal.returns
returns c = refl
