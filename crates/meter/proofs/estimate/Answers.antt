use mathlib.Core.Path.{refl, ◌∙◌}
use Rattle.answer.proofs.Refusals.{ok_status, err_status}
use Rattle.answer.proofs.Answers.{told_handed}
use Rattle.meter.proofs.Calls.{estimated_bad}
use Rattle.meter.proofs.estimate.Goals as goal

pub returns-in_err-check_call : goal.returns-in_err-check_call
returns-in_err-check_call c = let a = c.args in
    let e = c.in_err-check_call.ensures in
    told_handed _ _ _ e _ c.from_residual.ensures.1 ∙ estimated_bad a.d a.w a.memory.now a.key.now _ refl (err_status _ _ _ e)

pub estimate_checked-requires : goal.estimate_checked-requires
estimate_checked-requires c = ok_status _ _ c.in_ok-check_call.ensures

pub returns : goal.returns
returns c = c.estimate_checked.ensures
