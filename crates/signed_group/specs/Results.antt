-- What a signed group's calls come to, by status: a record, and that of the code's results. Cited by contracts and theorems.
use Rattle.std.specs.Prelude.{ℕ, false, Result, Ok, Err}
use Rattle.answer.specs.declared.Refusal.{Refusal}
use Rattle.answer.specs.Refusals.{number}
use Rattle.signed_number.specs.declared.Signed.{Signed}
use Rattle.signed_words.specs.declared.Counter.{Counter}

-- a counter that was read, or why not
pub record Reading : Type 0 where
  pub status : ℕ
  pub value : Signed
  pub level : ℕ

-- the reading of a counter or a refusal
abbrev pub reading_of : Result Counter Refusal → Reading
reading_of (Ok c) = record { status = 0; value = c.value; level = c.level }
reading_of (Err r) = record { status = number r; value = record { minus = false; magnitude = 0 }; level = 0 }
