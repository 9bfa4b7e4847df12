-- Answers, and what a refused call leaves. Cited by contracts and theorems. Status, position and value are document 01's number, place
-- and figure; refused is its 'turned away'.
use Rattle.std.specs.Prelude.{ℕ, zero, suc, cond, List, eqb, Result, Ok, Err, ⊤}
use Rattle.answer.specs.declared.Answer.{Answer}
use Rattle.answer.specs.declared.Refusal.{Refusal}
use Rattle.answer.specs.Refusals.{number}

abbrev pub accepted : ℕ → Answer
accepted v = record { status = 0; position = 0; value = v }

-- refused at a word, and refused with place 0
abbrev pub refused_at : ℕ → ℕ → Answer
refused_at s p = record { status = s; position = p; value = 0 }

abbrev pub refused : ℕ → Answer
refused s = refused_at s 0

-- an answer by its status: accepted with a value, or refused with place 0
unfoldable pub answer_of : ℕ → ℕ → Answer
answer_of zero value = accepted value
answer_of (suc s) value = refused (suc s)

-- an answer by the result of a call: with its figure, or with 0 where it has none
unfoldable pub told : Result ℕ Refusal → Answer
told (Ok value) = accepted value
told (Err r) = refused (number r)

unfoldable pub done : Result ⊤ Refusal → Answer
done (Ok _) = accepted 0
done (Err r) = refused (number r)

-- What a call leaves of what it was lent, whatever that is: refused, it leaves it as it was before.
unfoldable pub leaves : {A : Type 0} → ℕ → A → A → A
leaves status after before = cond (eqb status 0) after before

-- what a call answers and leaves in the memory it may write
pub record Done : Type 0 where
  pub answer : Answer
  pub memory : List ℕ

unfoldable pub finish : ℕ → ℕ → List ℕ → List ℕ → Done
finish status value after before = record { answer = answer_of status value; memory = leaves status after before }
