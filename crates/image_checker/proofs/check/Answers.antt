use Rattle.image_format.specs.Read.{checked}
use Rattle.word.proofs.Results.{next_passed, next_handed_on}
use Rattle.image_checker.proofs.check.Goals as goal

pub returns-in_err-rows : goal.returns-in_err-rows
unfolding checked
returns-in_err-rows c = next_handed_on _ _ _ _ c.from_residual.ensures.1 c.in_err-rows.ensures

pub returns-in_err-end : goal.returns-in_err-end
unfolding checked
returns-in_err-end c = next_passed _ _ _ _ c.in_ok-rows.ensures (next_handed_on _ _ _ _ c.from_residual-in_err-end.ensures.1 c.in_err-end.ensures)

pub returns : goal.returns
unfolding checked
returns c = next_passed _ _ _ _ c.in_ok-rows.ensures (next_passed _ _ _ _ c.in_ok-end.ensures c.check_end.ensures)
