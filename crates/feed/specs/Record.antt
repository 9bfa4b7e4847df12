-- The call for one record or the end. Document 01, 'Images and feeds', 'Turned away, in checking order'. Cited by contracts.
use Rattle.std.specs.Prelude.{ℕ, zero, suc, cond, List, eqb, length}
use Rattle.answer.specs.declared.Answer.{Answer}
use Rattle.answer.specs.Answers.{leaves}
use Rattle.geometry.specs.Checks.{bad_shape}
use Rattle.meter.specs.Meter.{updated, estimated}
use Rattle.feed_records.specs.Openings.{Opening}
use Rattle.feed_records.specs.Openings as opening
use Rattle.feed_records.specs.Bodies.{Body}
use Rattle.feed_records.specs.Bodies as body
use Rattle.feed.specs.declared.Recorded.{Recorded}
use Rattle.feed.specs.declared.Recorded.TheVariants as case
use Rattle.feed_records.specs.Answers.{opening_answer, body_answer}
use Rattle.feed_keys.specs.Keys.{key_of}
use Rattle.feed_records.specs.Words.{opened, amount_of, update_body, query_body}
use Rattle.feed.specs.Answers.{record_answer}

-- what the call answers and leaves in the memory
pub record Carried : Type 0 where
  pub outcome : Recorded
  pub memory : List ℕ

-- a refusal by its number and place
abbrev pub refusal : Answer → Recorded
refusal a = case.Refused a.status a.position

-- what was asked of the meter, or the meter's refusal
unfoldable pub outcome_of : Answer → Recorded → Recorded
outcome_of a r = cond (eqb a.status 0) r (refusal a)

-- an update by record is the meter's update with the record's key and amount
unfoldable pub update_outcome : ℕ → ℕ → List ℕ → ℕ → List ℕ → Body → Recorded
update_outcome d w memory n words (body.Sound a) = outcome_of (updated d w memory (key_of n words) a).answer case.Updated
update_outcome d w memory n words (body.Refused s p) = refusal (body_answer (body.Refused s p))

-- a query is the meter's estimate of the record's key
unfoldable pub queried : ℕ → ℕ → List ℕ → ℕ → List ℕ → Body → Recorded
queried d w memory n words (body.Sound a) =
    outcome_of (estimated d w memory (key_of n words)) (case.Estimate (estimated d w memory (key_of n words)).value)
queried d w memory n words (body.Refused s p) = refusal (body_answer (body.Refused s p))

-- each record is opened only after its kind and key length pass
unfoldable pub opened_outcome : ℕ → ℕ → List ℕ → List ℕ → Opening → Recorded
opened_outcome d w memory words (opening.Update n) = update_outcome d w memory n words (update_body n words)
opened_outcome d w memory words (opening.Query n) = queried d w memory n words (query_body n words)
opened_outcome d w memory words opening.End = case.Ended
opened_outcome d w memory words (opening.Refused s) = refusal (opening_answer (opening.Refused s))

-- the call's own d, w and memory come before the words
unfoldable pub record_outcome : ℕ → ℕ → ℕ → List ℕ → ℕ → List ℕ → Recorded
record_outcome zero d w memory before words = opened_outcome d w memory words (opened before words)
record_outcome (suc s) d w memory before words = case.Refused (suc s) 0

-- what an accepted record or end leaves: only an update changes the memory
unfoldable pub update_memory : ℕ → ℕ → List ℕ → ℕ → List ℕ → List ℕ
update_memory d w memory n words = (updated d w memory (key_of n words) (amount_of n words)).memory

unfoldable pub record_memory : ℕ → ℕ → List ℕ → List ℕ → Opening → List ℕ
record_memory d w memory words (opening.Update n) = update_memory d w memory n words
record_memory d w memory words (opening.Query n) = memory
record_memory d w memory words opening.End = memory
record_memory d w memory words (opening.Refused s) = memory

-- refused, it leaves the memory as it was
unfoldable pub finish_record : Recorded → List ℕ → List ℕ → Carried
finish_record outcome after before = record { outcome = outcome; memory = leaves (record_answer outcome).status after before }

unfoldable pub recorded : ℕ → ℕ → List ℕ → ℕ → List ℕ → Carried
recorded d w memory before words =
    finish_record (record_outcome (bad_shape d w (length memory)) d w memory before words) (record_memory d w memory words (opened before words)) memory
