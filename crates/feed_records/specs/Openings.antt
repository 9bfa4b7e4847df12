-- What a first word opens. Cited by contracts and theorems.
use Rattle.std.specs.Prelude.{ℕ, Result, Ok, Err}
use Rattle.answer.specs.declared.Refusal.{Refusal}
use Rattle.answer.specs.Refusals.{number}
use Rattle.feed_records.specs.declared.Opening.{Opening as Found}
use Rattle.feed_records.specs.declared.Opening.TheVariants as found

-- an update or a query with the length of its key, or the end; or a refusal by its number
pub data Opening : Type 0 where
  Update : ℕ → Opening
  Query : ℕ → Opening
  End : Opening
  Refused : ℕ → Opening

-- the opening that a result is
abbrev pub as_opening : Result Found Refusal → Opening
as_opening (Ok (found.Update n)) = Update n
as_opening (Ok (found.Query n)) = Query n
as_opening (Ok found.End) = End
as_opening (Err r) = Refused (number r)
