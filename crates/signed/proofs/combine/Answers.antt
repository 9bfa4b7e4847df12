use mathlib.Core.Path.{refl, sym, ap, ◌∙◌}
use Rattle.answer.specs.Refusals.{number, status}
use Rattle.answer.specs.Answers.{answer_of, done}
use Rattle.answer.proofs.Refusals.{ok_status, err_status}
use Rattle.answer.proofs.Answers.{done_handed}
use Rattle.signed.proofs.Tests.{shape_rows}
use Rattle.signed.proofs.Calls.{combined_bad, combined_length, combined_full, combined_good}
use Rattle.signed.proofs.combine.Goals as goal

pub returns-in_err-check_shape : goal.returns-in_err-check_shape
returns-in_err-check_shape c = let a = c.args in
    let e = c.in_err-check_shape.ensures in
    let p = combined_bad a.d a.w a.memory.now a.minus a.source.now _ refl (err_status _ _ _ e) in record { value = done_handed _ _ _ e _ c.from_residual.ensures.1 ∙ p.0; memory_after = p.1 }

pub returns-then-source-memory : goal.returns-then-source-memory
unfolding done answer_of number
returns-then-source-memory c = let a = c.args in
    let p = combined_length a.d a.w a.memory.now a.minus a.source.now (ok_status _ _ c.in_ok-check_shape.ensures) c.if-source-memory.true in record { value = p.0; memory_after = p.1 }

pub combine_status-taken-requires : goal.combine_status-taken-requires
combine_status-taken-requires c = let a = c.args in record { fact_1 = (shape_rows a.d a.w _ (ok_status _ _ c.in_ok-check_shape.ensures)).1; fact_2 = c.if-source-memory.false }

pub returns-in_err-taken : goal.returns-in_err-taken
returns-in_err-taken c = let a = c.args in
    let e = sym (ap status c.in_err-taken.was) ∙ c.combine_status-taken.ensures in
    let p = combined_full a.d a.w a.memory.now a.minus a.source.now (ok_status _ _ c.in_ok-check_shape.ensures) c.if-source-memory.false _ refl (err_status _ _ _ e) in record { value = done_handed _ _ _ e _ c.from_residual-in_err-taken.ensures.1 ∙ p.0; memory_after = p.1 }

pub combine_rows-requires : goal.combine_rows-requires
combine_rows-requires c = let a = c.args in
    let e = sym (ap status c.in_ok-taken.was) ∙ c.combine_status-taken.ensures in
    record { rows_in_1 = (shape_rows a.d a.w _ (ok_status _ _ c.in_ok-check_shape.ensures)).1; rows_in_2 = c.if-source-memory.false; memory_value = ok_status _ _ e }

pub returns : goal.returns
unfolding done answer_of
returns c = let a = c.args in
    let e = sym (ap status c.in_ok-taken.was) ∙ c.combine_status-taken.ensures in
    let p = combined_good a.d a.w a.memory.now a.minus a.source.now (ok_status _ _ c.in_ok-check_shape.ensures) c.if-source-memory.false (ok_status _ _ e) in record { value = p.0; memory_after = c.combine_rows.ensures ∙ p.1 }
