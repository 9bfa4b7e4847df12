use mathlib.Core.Path.{refl, ◌∙◌}
use Rattle.answer.specs.Answers.{answer_of, done}
use Rattle.answer.specs.Refusals.{number}
use Rattle.answer.proofs.Refusals.{ok_status, err_status}
use Rattle.answer.proofs.Answers.{done_handed}
use Rattle.geometry.proofs.Widths.{shape_good}
use Rattle.meter.proofs.Calls.{united_bad, united_length, united_full, united_good}
use Rattle.meter.proofs.unite.Goals as goal

pub returns-in_err-check_shape : goal.returns-in_err-check_shape
returns-in_err-check_shape c = let a = c.args in
    let e = c.in_err-check_shape.ensures in
    let p = united_bad a.d a.w a.memory.now a.source.now _ refl (err_status _ _ _ e) in record { value = done_handed _ _ _ e _ c.from_residual.ensures.1 ∙ p.0; memory_after = p.1 }

pub returns-then-source-memory : goal.returns-then-source-memory
unfolding done number answer_of
returns-then-source-memory c = let a = c.args in
    let p = united_length a.d a.w a.memory.now a.source.now (ok_status _ _ c.in_ok-check_shape.ensures) c.if-source-memory.true in record { value = p.0; memory_after = p.1 }

pub unite_status-requires : goal.unite_status-requires
unite_status-requires c = let a = c.args in record { fact_1 = (shape_good a.d a.w _ (ok_status _ _ c.in_ok-check_shape.ensures)).1; fact_2 = c.if-source-memory.false }

pub returns-in_err-unite_status : goal.returns-in_err-unite_status
returns-in_err-unite_status c = let a = c.args in
    let e = c.in_err-unite_status.ensures in
    let p = united_full a.d a.w a.memory.now a.source.now (ok_status _ _ c.in_ok-check_shape.ensures) c.if-source-memory.false _ refl (err_status _ _ _ e) in record { value = done_handed _ _ _ e _ c.from_residual-in_err-unite_status.ensures.1 ∙ p.0; memory_after = p.1 }

pub unite_rows-requires : goal.unite_rows-requires
unite_rows-requires c = let a = c.args in record { fact_1 = (shape_good a.d a.w _ (ok_status _ _ c.in_ok-check_shape.ensures)).1; fact_2 = c.if-source-memory.false }

pub returns : goal.returns
unfolding done answer_of
returns c = let a = c.args in
    let p = united_good a.d a.w a.memory.now a.source.now (ok_status _ _ c.in_ok-check_shape.ensures) c.if-source-memory.false (ok_status _ _ c.in_ok-unite_status.ensures) in record { value = p.0; memory_after = c.unite_rows.ensures ∙ p.1 }
