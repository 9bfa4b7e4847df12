-- The answer that a head's result is. Cited by contracts. The code's own terms.
use Rattle.std.specs.Prelude.{ℕ, Result, Ok, Err}
use Rattle.answer.specs.declared.Answer.{Answer}
use Rattle.answer.specs.Answers.{accepted, refused_at}
use Rattle.answer.specs.Refusals.{number}
use Rattle.word.specs.declared.Fault.{Fault}

abbrev pub head_answer : Result ℕ Fault → Answer
head_answer (Ok payload) = accepted payload
head_answer (Err f) = refused_at (number f.refusal) f.position
