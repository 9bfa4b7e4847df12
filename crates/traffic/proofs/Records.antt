-- What a feed's record or end call does: it is refused, or carries out an update, a query or the end.
use mathlib.Core.Path.{◌≡◌, refl, sym, ◌∙◌}
use mathlib.Core.Bool.{true, false, true≢false, and-eq-true_iff}
use mathlib.Core.List.{List}
use Prim.Native.Nat.{ℕ, zero, suc, ◌/◌, ◌%◌, ◌^◌}
use native.Mathlib.Omega.{arith}
use borrow.Author.Tests.{eqb-true, eqb-false}
use lib.Dec.{ltb, eqb, eqb-suc-zero}
use lib.ListN.{length, get_or}
use Rattle.answer.specs.declared.Answer.{Answer}
use Rattle.geometry.specs.Checks.{bad_shape, bad_key}
use Rattle.meter.specs.Meter.{updated, estimated}
use Rattle.word.specs.Word.{end_kind, payload, is_due}
use Rattle.feed.specs.declared.Recorded.{Recorded}
use Rattle.feed.specs.declared.Recorded.TheVariants as case
use Rattle.feed.specs.Answers.{record_answer}
use Rattle.feed_records.specs.Words.{update_kind, query_kind, opens_key, opened, key_of, amount_of, update_step, query_step, body_of, update_body, query_body}
use Rattle.feed.specs.Record.{Carried, outcome_of, update_outcome, queried, opened_outcome, record_outcome, recorded}
use Rattle.feed.proofs.Cases.{carried_update, carried, carried_after, by_cases}
use borrow.Table.Steps.{cases}

module _ (d w : ℕ) (memory : List ℕ) (before : ℕ) (words : List ℕ) where
  abbrev key : List ℕ
  key = key_of (payload words 0) words

  abbrev amount : ℕ
  amount = amount_of (payload words 0) words

  -- to prove a thing of what the call does, prove it of a refusal, an update, a query and the end
  module _ (P : Carried → Type 0)
      (refuses : (s p : ℕ) → eqb s 0 ≡ false → P (record { outcome = case.Refused s p; memory = memory }))
      (updates : is_due words 0 update_kind ≡ true → P (record { outcome = outcome_of (updated d w memory key amount).answer case.Updated; memory = (updated d w memory key amount).memory }))
      (queries : is_due words 0 update_kind ≡ false → is_due words 0 query_kind ≡ true → P (record { outcome = outcome_of (estimated d w memory key) (case.Estimate (estimated d w memory key).value); memory = memory }))
      (ends : is_due words 0 update_kind ≡ false → is_due words 0 query_kind ≡ false → P (record { outcome = case.Ended; memory = memory })) where
    sound : P (carried d w memory words (opened before words))
    unfolding carried opened_outcome opened opens_key update_body query_body body_of carried_update update_outcome queried
    sound =
        let n = payload words 0 in
        cases (is_due words 0 update_kind)
        (λ u. rw u
        (cases (eqb (bad_key n) 0)
        (λ k. rw k (cases (eqb (update_step n words).status 0) (λ s. rw s (updates u)) (λ s. rw s (refuses (update_step n words).status (update_step n words).position s))))
        (λ k. rw k (refuses (bad_key n) 0 k))))
        (λ u. rw u
        (cases (is_due words 0 query_kind)
        (λ q. rw q
        (cases (eqb (bad_key n) 0)
        (λ k. rw k (cases (eqb (query_step n words).status 0) (λ s. rw s (queries u q)) (λ s. rw s (refuses (query_step n words).status (query_step n words).position s))))
        (λ k. rw k (refuses (bad_key n) 0 k))))
        (λ q. rw q
        (cases (is_due words 0 end_kind)
        (λ e. rw e (cases (eqb n (before % 2 ^ 28)) (λ b. rw b (ends u q)) (λ b. rw b (refuses 9 0 refl))))
        (λ e. rw e (refuses 8 0 refl))))))

    after : (s : ℕ) → P (carried_after s d w memory before words)
    unfolding carried_after record_outcome
    after zero = sound
    after (suc s) = refuses (suc s) 0 (eqb-suc-zero s)

    pub record_cases : P (recorded d w memory before words)
    record_cases = rw (by_cases d w memory before words) (after (bad_shape d w (length memory)))

-- an outcome is accepted as what it carries out
pub outcome_status : (a : Answer) (r : Recorded) → (record_answer r).status ≡ 0 → eqb (record_answer (outcome_of a r)).status 0 ≡ eqb a.status 0
unfolding outcome_of
outcome_status a r e = cases (eqb a.status 0) (λ t. rw (t, e)) (λ t. rw t t)

-- a word has one kind
one_kind : (words : List ℕ) (p j k : ℕ) → is_due words p j ≡ true → is_due words p k ≡ true → j ≡ k
unfolding is_due
one_kind words p j k e f =
    let there = ltb p (length words) in
    let kind = get_or words p 0 / 2 ^ 28 in
    sym (eqb-true kind j ((and-eq-true_iff there (eqb kind j)).0 e).1) ∙ eqb-true kind k ((and-eq-true_iff there (eqb kind k)).0 f).1

-- what an accepted query answers is the meter's estimate of the record's key
pub query_is : (d w : ℕ) (memory : List ℕ) (before : ℕ) (words : List ℕ) → is_due words 0 query_kind ≡ true → (record_answer (recorded d w memory before words).outcome).status ≡ 0
    → ((estimated d w memory (key_of (payload words 0) words)).status ≡ 0)
    × ((estimated d w memory (key_of (payload words 0) words)).value ≡ (record_answer (recorded d w memory before words).outcome).value)
unfolding outcome_of
query_is d w memory before words due =
    let a = estimated d w memory (key_of (payload words 0) words) in
    record_cases d w memory before words (λ c. (record_answer c.outcome).status ≡ 0 → (a.status ≡ 0) × (a.value ≡ (record_answer c.outcome).value))
    (λ s p f e. absurd (eqb-false s 0 f e))
    (λ u e. absurd (five_not_six (one_kind words 0 update_kind query_kind u due)))
    (λ u q. cases (eqb a.status 0) (λ t. rw t (λ e. (eqb-true a.status 0 t, refl))) (λ t. rw t (λ e. absurd (eqb-false a.status 0 t e))))
    (λ u q e. absurd (true≢false (sym due ∙ q)))
  where
    five_not_six : update_kind ≡ query_kind → ⊥
    five_not_six e = omega arith

-- only a query answers with an estimate
pub only_queries : (d w : ℕ) (memory : List ℕ) (before : ℕ) (words : List ℕ) (value : ℕ) → (recorded d w memory before words).outcome ≡ case.Estimate value
    → is_due words 0 query_kind ≡ true
unfolding outcome_of
only_queries d w memory before words value =
    let u = (updated d w memory (key_of (payload words 0) words) (amount_of (payload words 0) words)).answer in
    record_cases d w memory before words (λ c. c.outcome ≡ case.Estimate value → is_due words 0 query_kind ≡ true)
    (λ s p f e. cc)
    (λ due. cases (eqb u.status 0) (λ t. rw t (λ e. cc)) (λ t. rw t (λ e. cc)))
    (λ due q e. q)
    (λ due q e. cc)
