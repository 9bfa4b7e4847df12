use mathlib.Core.Path.{refl, ap₂, ◌∙◌}
use Rattle.answer.specs.Answers.{answer_of}
use Rattle.answer.proofs.Refusals.{ok_status, err_status}
use Rattle.answer.proofs.Answers.{told_handed}
use Rattle.geometry.proofs.Widths.{shape_good}
use Rattle.meter.proofs.Calls.{widest_bad, widest_good}
use Rattle.meter.proofs.widest.Goals as goal

pub returns-in_err-check_shape : goal.returns-in_err-check_shape
returns-in_err-check_shape c = let a = c.args in
    let e = c.in_err-check_shape.ensures in
    told_handed _ _ _ e _ c.from_residual.ensures.1 ∙ widest_bad a.d a.w a.memory.now _ refl (err_status _ _ _ e)

pub widest_rows-level-requires : goal.widest_rows-level-requires
widest_rows-level-requires c = let a = c.args in
    (shape_good a.d a.w _ (ok_status _ _ c.in_ok-check_shape.ensures)).1

pub returns : goal.returns
returns c = let a = c.args in
    let found = c.widest_rows-level.ensures in
    c.figure.ensures.answer ∙ ap₂ answer_of found.status_value found.value_value ∙ widest_good a.d a.w a.memory.now (ok_status _ _ c.in_ok-check_shape.ensures)
