-- A step of a reader. Cited by contracts.
use Rattle.std.specs.Prelude.{ℕ, Result, Ok, Err}
use Rattle.answer.specs.Refusals.{number}
use Rattle.word.specs.declared.Fault.{Fault}

-- what is wrong with the first faulty word and where it is; or status 0 and the position to read on from
pub record Step : Type 0 where
  pub status : ℕ
  pub position : ℕ

-- the step that a result is
abbrev pub step : Result ℕ Fault → Step
step (Ok p) = record { status = 0; position = p }
step (Err f) = record { status = number f.refusal; position = f.position }
