use mathlib.Core.Path.{sym, ◌∙◌}
use Rattle.signed_group.proofs.Results.{outcome_stored, outcome_full}
use Rattle.signed_group.proofs.outcome.Goals as goal

pub returns-in-Ok : goal.returns-in-Ok
returns-in-Ok c = λ g x e. outcome_stored g x c.in-Ok.block (sym c.in-Ok.is ∙ e) c.settled.result c.settled.ensures

pub returns-in-Err : goal.returns-in-Err
returns-in-Err c = λ g x e. outcome_full g x _ (sym c.in-Err.is ∙ e)
