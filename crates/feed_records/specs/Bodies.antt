-- What the words after a first word are found to be. Cited by contracts and theorems.
use Rattle.std.specs.Prelude.{ℕ, Result, Ok, Err}
use Rattle.answer.specs.Refusals.{number}
use Rattle.word.specs.declared.Fault.{Fault}

-- the amount of an update, 0 for a query; or a refusal by its number and place
pub data Body : Type 0 where
  Sound : ℕ → Body
  Refused : ℕ → ℕ → Body

-- the body that a result is
abbrev pub as_body : Result ℕ Fault → Body
as_body (Ok a) = Sound a
as_body (Err f) = Refused (number f.refusal) f.position
