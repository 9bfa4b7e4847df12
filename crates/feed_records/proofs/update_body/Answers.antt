use mathlib.Core.Path.{ap, ◌∙◌}
use Rattle.feed_records.specs.Bodies as body
use Rattle.feed_records.specs.Words.{update_body}
use Rattle.feed_records.proofs.Laws.{sound_body, faulty_body}
use Rattle.feed_records.proofs.update_body.Goals as goal

pub returns-in_err-check_update-clause-value : goal.returns-in_err-check_update-clause-value
unfolding update_body
returns-in_err-check_update-clause-value c = faulty_body _ _ _ _ c.from_residual.ensures.1 c.in_err-check_update.ensures.value

pub returns-clause-value : goal.returns-clause-value
unfolding update_body
returns-clause-value c = ap body.Sound c.amount_of.ensures ∙ sound_body _ _ _ c.in_ok-check_update.ensures.value
