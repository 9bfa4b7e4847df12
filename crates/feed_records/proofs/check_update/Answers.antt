use mathlib.Core.Path.{sym, ◌∙◌}
use Rattle.word.proofs.Results.{next_ok, next_handed_on}
use Rattle.feed_records.specs.Words.{update_step}
use Rattle.feed_records.proofs.check_update.Goals as goal

pub returns-in_err-p-clause-value : goal.returns-in_err-p-clause-value
unfolding update_step
returns-in_err-p-clause-value c = next_handed_on _ _ _ _ c.from_residual.ensures.1 c.in_err-p.ensures.value

pub returns-clause-value : goal.returns-clause-value
unfolding update_step
returns-clause-value c = c.check_amount.ensures ∙ sym (next_ok _ _ _ c.in_ok-p.ensures.value)
