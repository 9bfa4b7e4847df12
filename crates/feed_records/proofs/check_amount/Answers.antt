use mathlib.Core.Path.{sym, ◌∙◌}
use Rattle.word.proofs.Results.{next_ok, next_handed_on}
use Rattle.feed_records.specs.Words.{check_amount}
use Rattle.feed_records.proofs.check_amount.Goals as goal

pub returns-in_err-second : goal.returns-in_err-second
unfolding check_amount
returns-in_err-second c = next_handed_on _ _ _ _ c.from_residual.ensures.1 c.in_err-second.ensures

pub returns : goal.returns
unfolding check_amount
returns c = c.below-2.ensures ∙ sym (next_ok _ _ _ c.in_ok-second.ensures)
