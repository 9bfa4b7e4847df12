-- A refused record's place is a lent word's index, or the number of words lent.
use mathlib.Core.Path.{◌≡◌, refl, sym, ap, ◌∙◌}
use mathlib.Core.Bool.{Bool, true, false, cond}
use mathlib.Core.List.{List}
use Prim.Native.Nat.{ℕ, zero, suc, ◌≤◌}
use native.Mathlib.Decide.{dec_lt}
use native.Mathlib.Omega.{arith}
use lib.Dec.{eqb}
use lib.ListN.{length}
use Rattle.answer.specs.declared.Answer.{Answer}
use Rattle.answer.specs.Answers.{answer_of, finish, leaves}
use Rattle.geometry.specs.Checks.{bad_shape}
use Rattle.meter.specs.Meter.{updated, estimated}
use Rattle.feed_records.specs.Openings.{Opening}
use Rattle.feed_records.specs.Openings as opening
use Rattle.feed_records.specs.Bodies as body
use Rattle.feed.specs.declared.Recorded.{Recorded}
use Rattle.feed.specs.declared.Recorded.TheVariants as case
use Rattle.feed.specs.Answers.{record_answer}
use Rattle.feed_keys.specs.Keys.{key_words, key_of}
use Rattle.feed_records.specs.Words.{opened, amount_of, update_step, query_step, body_of, update_body, query_body}
use Rattle.feed.specs.Record.{Carried, outcome_of, update_outcome, queried, opened_outcome, record_outcome, finish_record, recorded}
use Rattle.feed_keys.proofs.Places.{key_in}
use Rattle.feed_records.proofs.Places.{update_in, missing}

-- the place of a record's outcome, inside so many words
abbrev Inside : ℕ → Recorded → Type 0
Inside n r = (record_answer r).position ≤ n

-- the meter's calls have the place 0
no_place : (s v : ℕ) → (answer_of s v).position ≡ 0
unfolding answer_of
no_place zero v = refl
no_place (suc s) v = refl

outcome_in : (n : ℕ) (a : Answer) (r : Recorded) → a.position ≡ 0 → Inside n r → Inside n (outcome_of a r)
unfolding outcome_of
outcome_in n a r e h = test (eqb a.status 0)
  where
    test : (t : Bool) → Inside n (cond t r (case.Refused a.status a.position))
    test true = h
    test false = omega arith

update_place : (d w : ℕ) (memory : List ℕ) (n : ℕ) (words : List ℕ) → 1 ≤ length words → Inside (length words) (update_outcome d w memory n words (update_body n words))
unfolding update_outcome update_body body_of updated finish leaves
update_place d w memory n words h = test (eqb (update_step n words).status 0)
  where
    test : (t : Bool) → Inside (length words) (update_outcome d w memory n words (cond t (body.Sound (amount_of n words)) (body.Refused (update_step n words).status (update_step n words).position)))
    test true = outcome_in (length words) (updated d w memory (key_of n words) (amount_of n words)).answer case.Updated (no_place _ _) (omega arith)
    test false = update_in n words h

query_place : (d w : ℕ) (memory : List ℕ) (n : ℕ) (words : List ℕ) → 1 ≤ length words → Inside (length words) (queried d w memory n words (query_body n words))
unfolding queried query_body query_step body_of estimated
query_place d w memory n words h = test (eqb (query_step n words).status 0)
  where
    test : (t : Bool) → Inside (length words) (queried d w memory n words (cond t (body.Sound 0) (body.Refused (query_step n words).status (query_step n words).position)))
    test true = outcome_in (length words) (estimated d w memory (key_of n words)) (case.Estimate (estimated d w memory (key_of n words)).value) (no_place _ _) (omega arith)
    test false = key_in (key_words n) n words 1 h

-- what a first word that is there opens
carried_in : (d w : ℕ) (memory words : List ℕ) (o : Opening) → 1 ≤ length words → Inside (length words) (opened_outcome d w memory words o)
unfolding opened_outcome
carried_in d w memory words (opening.Update n) h = update_place d w memory n words h
carried_in d w memory words (opening.Query n) h = query_place d w memory n words h
carried_in d w memory words opening.End h = omega arith
carried_in d w memory words (opening.Refused s) h = omega arith

after_in : (s d w : ℕ) (memory : List ℕ) (before : ℕ) (words : List ℕ) → Inside (length words) (record_outcome s d w memory before words)
unfolding record_outcome opened_outcome
after_in (suc s) d w memory before words = omega arith
after_in zero d w memory before words =
    elim (dec_lt 0 (length words)) [
      | yes l ↦ carried_in d w memory words (opened before words) l
      | no l ↦ rw (missing before words (omega arith)) (omega arith)
    ]

pub place_in : (d w : ℕ) (memory : List ℕ) (before : ℕ) (words : List ℕ) → Inside (length words) (recorded d w memory before words).outcome
unfolding recorded finish_record
place_in d w memory before words = after_in (bad_shape d w (length memory)) d w memory before words

-- what the call's contract says of an outcome and of a memory
pub all_of : (d w : ℕ) (memory : List ℕ) (before : ℕ) (words : List ℕ) (x : Carried) (r : Recorded) (m : List ℕ)
    → recorded d w memory before words ≡ x → r ≡ x.outcome → m ≡ x.memory
    → (r ≡ (recorded d w memory before words).outcome) × ((m ≡ (recorded d w memory before words).memory) × ((record_answer r).position ≤ length words))
all_of d w memory before words x r m e o k =
    let p : r ≡ (recorded d w memory before words).outcome = o ∙ ap (λ (y : Carried). y.outcome) (sym e) in
    (p, (k ∙ ap (λ (y : Carried). y.memory) (sym e), rw p (place_in d w memory before words)))
