use mathlib.Core.Path.{refl, ◌∙◌}
use Rattle.answer.specs.Answers.{answer_of, done}
use Rattle.answer.proofs.Refusals.{ok_status, err_status}
use Rattle.answer.proofs.Answers.{done_handed}
use Rattle.watch.proofs.Calls.{cleared_bad, cleared_good}
use Rattle.watch.proofs.clear.Goals as goal

pub returns-in_err-check_list : goal.returns-in_err-check_list
returns-in_err-check_list c = let a = c.args in
    let e = c.in_err-check_list.ensures in
    let p = cleared_bad a.list.now _ refl (err_status _ _ _ e) in record { value = done_handed _ _ _ e _ c.from_residual.ensures.1 ∙ p.0; list_after = p.1 }

pub returns : goal.returns
unfolding done answer_of
returns c = let a = c.args in
    let p = cleared_good a.list.now (ok_status _ _ c.in_ok-check_list.ensures) in record { value = p.0; list_after = c.fill.ensures ∙ p.1 }
