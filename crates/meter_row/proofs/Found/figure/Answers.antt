use Rattle.answer.specs.Answers.{answer_of, told}
use Rattle.answer.specs.Refusals.{status}
use Rattle.answer.proofs.Refusals.{no_number}
use Rattle.answer.proofs.Answers.{answer_refused}
use Rattle.meter_row.proofs.Found.figure.Goals as goal

pub returns-in-Ok-clause-answer : goal.returns-in-Ok-clause-answer
unfolding told status answer_of
returns-in-Ok-clause-answer c = rw c.in-Ok.is

pub returns-in-Ok-clause-status_value : goal.returns-in-Ok-clause-status_value
unfolding status
returns-in-Ok-clause-status_value c = rw c.in-Ok.is

pub returns-in-Err-clause-answer : goal.returns-in-Err-clause-answer
unfolding told status
returns-in-Err-clause-answer c = rw c.in-Err.is (answer_refused _ _ (no_number c.in-Err.refusal))

pub returns-in-Err-clause-status_value : goal.returns-in-Err-clause-status_value
unfolding status
returns-in-Err-clause-status_value c = rw c.in-Err.is
