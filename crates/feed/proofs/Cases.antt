-- A record by cases: its outcome, with the memory that is left in each case. A refusal by the words and one by the meter are told apart.
use mathlib.Core.Path.{◌≡◌, sym, ap, ◌∙◌}
use mathlib.Core.List.{List}
use Prim.Native.Nat.{ℕ, zero, suc}
use native.Mathlib.Omega.{arith}
use borrow.Author.Tests.{eqb-true, eqb-false, eq-eqb, ne_eqb}
use borrow.Table.Steps.{cases}
use lib.Dec.{eqb}
use lib.ListN.{length}
use Rattle.answer.specs.declared.Answer.{Answer}
use Rattle.answer.specs.Answers.{leaves}
use Rattle.answer.proofs.Answers.{left_before, finish_kept}
use Rattle.geometry.specs.Checks.{bad_shape}
use Rattle.meter.specs.Meter.{updated}
use Rattle.feed_records.specs.Openings.{Opening}
use Rattle.feed_records.specs.Openings as opening
use Rattle.feed_records.specs.Bodies.{Body}
use Rattle.feed_records.specs.Bodies as body
use Rattle.feed_records.specs.Words.{opened, amount_of, update_step, body_of, update_body}
use Rattle.feed_keys.specs.Keys.{key_of}
use Rattle.feed.specs.declared.Recorded.{Recorded}
use Rattle.feed.specs.declared.Recorded.TheVariants as case
use Rattle.feed.specs.Answers.{record_answer}
use Rattle.feed.specs.Record.{Carried, refusal, outcome_of, update_outcome, opened_outcome, record_outcome, update_memory, record_memory, finish_record, recorded}

unfoldable pub carried_update : ℕ → ℕ → List ℕ → ℕ → List ℕ → Body → Carried
carried_update d w memory n words (body.Sound a) =
    record { outcome = update_outcome d w memory n words (body.Sound a); memory = (updated d w memory (key_of n words) a).memory }
carried_update d w memory n words (body.Refused s p) = record { outcome = update_outcome d w memory n words (body.Refused s p); memory = memory }

unfoldable pub carried : ℕ → ℕ → List ℕ → List ℕ → Opening → Carried
carried d w memory words (opening.Update n) = carried_update d w memory n words (update_body n words)
carried d w memory words (opening.Query n) = record { outcome = opened_outcome d w memory words (opening.Query n); memory = memory }
carried d w memory words opening.End = record { outcome = opened_outcome d w memory words opening.End; memory = memory }
carried d w memory words (opening.Refused s) = record { outcome = opened_outcome d w memory words (opening.Refused s); memory = memory }

unfoldable pub carried_after : ℕ → ℕ → ℕ → List ℕ → ℕ → List ℕ → Carried
carried_after zero d w memory before words = carried d w memory words (opened before words)
carried_after (suc s) d w memory before words = record { outcome = record_outcome (suc s) d w memory before words; memory = memory }

-- the outcome by an answer, as the code finds it
pub outcome_refused : (a : Answer) (r : Recorded) → (a.status ≡ 0 → ⊥) → outcome_of a r ≡ refusal a
unfolding outcome_of
outcome_refused a r h = rw (ne_eqb a.status 0 h)

pub outcome_accepted : (a : Answer) (r : Recorded) → a.status ≡ 0 → outcome_of a r ≡ r
unfolding outcome_of
outcome_accepted a r h = rw (eq-eqb a.status 0 h)

-- an outcome with a memory that is what it leaves
finished : (o : Recorded) (after before m : List ℕ) → leaves (record_answer o).status after before ≡ m → finish_record o after before ≡ record { outcome = o; memory = m }
unfolding finish_record
finished o after before m e = rw e

-- a call that changes nothing
unchanged : (s : ℕ) (m : List ℕ) → leaves s m m ≡ m
unfolding leaves
unchanged s m = cases (eqb s 0) (λ t. rw t) (λ t. rw t)

module _ (d w : ℕ) (memory : List ℕ) where
  update_left : (key : List ℕ) (a : ℕ) →
      let u = updated d w memory key a in
      leaves (record_answer (outcome_of u.answer case.Updated)).status u.memory memory ≡ u.memory
  unfolding leaves updated
  update_left key a =
      let u = updated d w memory key a in
      cases (eqb u.answer.status 0) (λ t. rw (outcome_accepted u.answer case.Updated (eqb-true _ 0 t)))
      (λ t. rw (outcome_refused u.answer case.Updated (eqb-false _ 0 t), t) (sym (finish_kept _ _ _ memory t)))

  update_by_cases : (n : ℕ) (words : List ℕ)
      → finish_record (update_outcome d w memory n words (update_body n words)) (update_memory d w memory n words) memory ≡ carried_update d w memory n words (update_body n words)
  unfolding update_outcome update_memory carried_update update_body body_of
  update_by_cases n words =
      let s = update_step n words in
      cases (eqb s.status 0) (λ t. rw t (finished _ _ memory _ (update_left (key_of n words) (amount_of n words))))
      (λ t. rw t (finished _ _ memory memory (left_before s.status _ memory (eqb-false s.status 0 t))))

  opened_by_cases : (words : List ℕ) (o : Opening) → finish_record (opened_outcome d w memory words o) (record_memory d w memory words o) memory ≡ carried d w memory words o
  unfolding opened_outcome record_memory carried
  opened_by_cases words (opening.Update n) = update_by_cases n words
  opened_by_cases words (opening.Query n) = finished _ memory memory memory (unchanged _ memory)
  opened_by_cases words opening.End = finished _ memory memory memory (unchanged _ memory)
  opened_by_cases words (opening.Refused s) = finished _ memory memory memory (unchanged _ memory)

  pub by_cases : (before : ℕ) (words : List ℕ) → recorded d w memory before words ≡ carried_after (bad_shape d w (length memory)) d w memory before words
  unfolding recorded record_outcome carried_after
  by_cases before words = after (bad_shape d w (length memory))
    where
      after : (s : ℕ) → finish_record (record_outcome s d w memory before words) (record_memory d w memory words (opened before words)) memory ≡ carried_after s d w memory before words
      after zero = opened_by_cases words (opened before words)
      after (suc s) = finished _ _ memory memory (left_before (suc s) _ memory (λ e. omega arith))

  -- what the contract of an update by record says, by cases
  module _ (n : ℕ) (words : List ℕ) (r : Recorded) (m : List ℕ) where
    abbrev did : Carried
    did = carried_update d w memory n words (update_body n words)

    abbrev Told : Type 0
    Told = (r ≡ update_outcome d w memory n words (update_body n words)) × (m ≡ (finish_record r (update_memory d w memory n words) memory).memory)

    pub tell : r ≡ did.outcome → m ≡ did.memory → Told
    unfolding finish_record
    tell e f =
        let z = sym (update_by_cases n words) in
        let o : r ≡ update_outcome d w memory n words (update_body n words) = e ∙ ap (λ (c : Carried). c.outcome) z in
        (o, rw o (f ∙ ap (λ (c : Carried). c.memory) z))

    pub told : Told → (r ≡ did.outcome) × (m ≡ did.memory)
    unfolding finish_record
    told t =
        let z = update_by_cases n words in (
          t.0 ∙ ap (λ (c : Carried). c.outcome) z,
          (rw t.0 at t.1) ∙ ap (λ (c : Carried). c.memory) z,
        )
