use mathlib.Core.Path.{refl, ◌∙◌}
use Rattle.answer.specs.Answers.{answer_of, done}
use Rattle.answer.proofs.Refusals.{ok_status, err_status}
use Rattle.answer.proofs.Answers.{done_handed}
use Rattle.signed.proofs.Calls.{cleared_bad, cleared_good}
use Rattle.signed.proofs.clear.Goals as goal

pub returns-in_err-check_shape : goal.returns-in_err-check_shape
returns-in_err-check_shape c = let a = c.args in
    let e = c.in_err-check_shape.ensures in
    let p = cleared_bad a.d a.w a.memory.now _ refl (err_status _ _ _ e) in record { value = done_handed _ _ _ e _ c.from_residual.ensures.1 ∙ p.0; memory_after = p.1 }

pub returns : goal.returns
unfolding done answer_of
returns c = let a = c.args in
    let p = cleared_good a.d a.w a.memory.now (ok_status _ _ c.in_ok-check_shape.ensures) in record { value = p.0; memory_after = c.fill.ensures ∙ p.1 }
