use mathlib.Core.Path.{◌∙◌}
use Rattle.answer.proofs.Refusals.{ok_status, err_status, handed_on}
use Rattle.signed.proofs.Tests.{call_shape_bad, call_key}
use Rattle.signed.proofs.check_call.Goals as goal

pub returns-in_err-check_shape : goal.returns-in_err-check_shape
returns-in_err-check_shape c = let a = c.args in
    let e = c.in_err-check_shape.ensures in
    handed_on _ _ _ _ c.from_residual.ensures.1 e ∙ call_shape_bad a.d a.w a.memory.now a.key.now (err_status _ _ _ e)

pub returns : goal.returns
returns c = let a = c.args in
    c.check_key.ensures ∙ call_key a.d a.w a.memory.now a.key.now (ok_status _ _ c.in_ok-check_shape.ensures)
