use mathlib.Core.Path.{refl}
use Rattle.answer.proofs.refused_at.Goals as goal

pub returns : goal.returns
returns c = refl
