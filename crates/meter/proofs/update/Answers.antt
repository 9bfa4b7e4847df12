use mathlib.Core.Path.{refl, ◌∙◌}
use Rattle.answer.proofs.Refusals.{ok_status, err_status}
use Rattle.answer.proofs.Answers.{done_handed}
use Rattle.meter.proofs.Calls.{updated_bad}
use Rattle.meter.proofs.update.Goals as goal

pub returns-in_err-check_call : goal.returns-in_err-check_call
returns-in_err-check_call c = let a = c.args in
    let e = c.in_err-check_call.ensures in
    let p = updated_bad a.d a.w a.memory.now a.key.now a.amount _ refl (err_status _ _ _ e) in record { value = done_handed _ _ _ e _ c.from_residual.ensures.1 ∙ p.0; memory_after = p.1 }

pub update_checked-requires : goal.update_checked-requires
update_checked-requires c = ok_status _ _ c.in_ok-check_call.ensures

pub returns : goal.returns
returns c = record { value = c.update_checked.ensures.value; memory_after = c.update_checked.ensures.memory_after }
