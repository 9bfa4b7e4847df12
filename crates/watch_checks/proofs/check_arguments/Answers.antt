use mathlib.Core.Path.{◌∙◌}
use Rattle.answer.proofs.Refusals.{ok_status, err_status, handed_on}
use Rattle.watch_checks.proofs.Lines.{arguments_list, arguments_key}
use Rattle.watch_checks.proofs.check_arguments.Goals as goal

pub returns-in_err-check_list : goal.returns-in_err-check_list
returns-in_err-check_list c = let a = c.args in
    let e = c.in_err-check_list.ensures in
    handed_on _ _ _ _ c.from_residual.ensures.1 e ∙ arguments_list a.list.now a.key.now (err_status _ _ _ e)

pub returns : goal.returns
returns c = let a = c.args in
    c.check_key.ensures ∙ arguments_key a.list.now a.key.now (ok_status _ _ c.in_ok-check_list.ensures)
