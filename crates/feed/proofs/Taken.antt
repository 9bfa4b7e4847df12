-- A record or the end that is carried out, or refused by the meter and not by its words, takes no more words than are lent.
use mathlib.Core.Logic.{⊎_elim}
use mathlib.Core.Path.{◌≡◌, refl, sym, ap, ◌∙◌}
use mathlib.Core.List.{List}
use Prim.Native.Nat.{ℕ, zero, suc, ◌≤◌}
use native.Mathlib.Omega.{arith}
use borrow.Author.Tests.{ne_eqb}
use lib.ListN.{length}
use Rattle.geometry.specs.Checks.{bad_shape}
use Rattle.feed_records.specs.Openings.{Opening}
use Rattle.feed_records.specs.Openings as opening
use Rattle.feed_lengths.specs.Lengths.{words_taken}
use Rattle.feed_records.specs.Words.{opened, update_step, query_step, body_of, update_body, query_body}
use Rattle.feed_lengths.proofs.Laws.{some_taken}
use Rattle.feed_records.proofs.Taken.{fault, opened_status, sound_taken}
use Rattle.feed.specs.Answers.{record_answer}
use Rattle.feed.specs.Record.{update_outcome, queried, opened_outcome, record_outcome, finish_record, recorded}

-- a record with a faulty word is refused by that word
carried_fault : (d w : ℕ) (memory words : List ℕ) (o : Opening) → (fault words o ≡ 0 → ⊥) → (record_answer (opened_outcome d w memory words o)).status ≡ fault words o
unfolding opened_outcome update_outcome queried update_body query_body body_of
carried_fault d w memory words (opening.Update n) h = rw (ne_eqb (update_step n words).status 0 h)
carried_fault d w memory words (opening.Query n) h = rw (ne_eqb (query_step n words).status 0 h)
carried_fault d w memory words opening.End h = absurd (h refl)
carried_fault d w memory words (opening.Refused s) h = refl

module _ (d w : ℕ) (memory : List ℕ) (before : ℕ) (words : List ℕ) where
  -- the number of a call
  abbrev number : ℕ
  number = (record_answer (recorded d w memory before words).outcome).status

  -- numbers 4, 8 and 9 are those of a record's words
  pub taken_in : bad_shape d w (length memory) ≡ 0 → (number ≡ 4 → ⊥) → (number ≡ 8 → ⊥) → (number ≡ 9 → ⊥) → words_taken words ≤ length words
  unfolding recorded record_outcome finish_record
  taken_in shape four eight nine =
      sound_taken before words (⊎_elim (λ e. e) (⊎_elim (λ e. absurd (four (by_word 4 e (λ z. omega arith))))
      (⊎_elim (λ e. absurd (eight (by_word 8 e (λ z. omega arith)))) (λ e. absurd (nine (by_word 9 e (λ z. omega arith)))))) (opened_status before words))
    where
      by_word : (s : ℕ) → fault words (opened before words) ≡ s → (s ≡ 0 → ⊥) → number ≡ s
      by_word s e h =
          ap (λ (z : ℕ). (record_answer (record_outcome z d w memory before words)).status) shape
          ∙ carried_fault d w memory words (opened before words) (λ z. h (sym e ∙ z)) ∙ e

  -- an accepted call's own arguments have passed
  accepted_shape : number ≡ 0 → bad_shape d w (length memory) ≡ 0
  unfolding recorded record_outcome finish_record
  accepted_shape e = after (bad_shape d w (length memory)) e
    where
      after : (s : ℕ) → (record_answer (record_outcome s d w memory before words)).status ≡ 0 → s ≡ 0
      after zero h = refl
      after (suc s) h = absurd (omega arith)

  pub taken_accepted : number ≡ 0 → (1 ≤ words_taken words) × (words_taken words ≤ length words)
  taken_accepted e =
      (some_taken words, taken_in (accepted_shape e) (λ h. omega arith) (λ h. omega arith) (λ h. omega arith))
