use mathlib.Core.Path.{◌∙◌}
use Rattle.answer.proofs.Refusals.{ok_status, err_status, handed_on}
use Rattle.watch_checks.proofs.Lines.{lines_shape, lines_arguments}
use Rattle.watch_checks.proofs.check_lines.Goals as goal

pub returns-in_err-check_shape : goal.returns-in_err-check_shape
returns-in_err-check_shape c = let a = c.args in
    let e = c.in_err-check_shape.ensures in
    handed_on _ _ _ _ c.from_residual.ensures.1 e ∙ lines_shape a.d a.w a.memory.now a.list.now a.key.now (err_status _ _ _ e)

pub returns : goal.returns
returns c = let a = c.args in
    c.check_arguments.ensures ∙ lines_arguments a.d a.w a.memory.now a.list.now a.key.now (ok_status _ _ c.in_ok-check_shape.ensures)
