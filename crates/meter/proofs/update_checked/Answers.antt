use mathlib.Core.Path.{ap, ◌∙◌}
use Prim.Native.Nat.{ℕ}
use Rattle.answer.specs.Refusals.{status}
use Rattle.answer.specs.Answers.{answer_of, done}
use Rattle.answer.proofs.Answers.{done_handed}
use Rattle.meter.proofs.Reading.{answer_by_status}
use Rattle.meter.proofs.update_checked.Goals as goal

pub returns-in_err-update_reading : goal.returns-in_err-update_reading
returns-in_err-update_reading c = let a = c.args in
    let e = c.in_err-update_reading.ensures in record { value = done_handed _ _ _ e.status_value _ c.from_residual.ensures.1 ∙ answer_by_status a.d a.w a.memory.now a.key.now a.amount; memory_after = e.memory_after }

pub returns : goal.returns
unfolding done status answer_of
returns c = let a = c.args in
    let e = c.in_ok-update_reading.ensures in record { value = ap (λ (s : ℕ). answer_of s 0) e.status_value ∙ answer_by_status a.d a.w a.memory.now a.key.now a.amount; memory_after = e.memory_after }
