-- A record's call on a meter of the right length stops the feed, or all its words are lent.
use mathlib.Core.Logic.{◌⊎◌, ⊎_elim, inl, inr}
use mathlib.Core.Path.{◌≡◌, refl, sym, ap, ◌∙◌}
use mathlib.Core.Bool.{Bool, true, false, ◌&&◌, ◌||◌, true≢false}
use mathlib.Core.List.{List}
use Prim.Native.Nat.{ℕ, zero, suc, ◌+◌, ◌-◌, ◌^◌, ◌%◌, ◌≤◌}
use native.Mathlib.Omega.{arith}
use borrow.Author.Tests.{eqb-true, eq-eqb}
use borrow.Table.Steps.{cases}
use lib.Dec.{eqb, leb}
use lib.ListN.{length}
use Rattle.answer.specs.Numbers.{bad_payload}
use Rattle.answer.proofs.Answers.{finish_kept}
use Rattle.geometry.specs.Checks.{bad_shape, bad_key}
use Rattle.meter.specs.Meter.{updated, estimated}
use Rattle.meter.proofs.Memory.{update_accepted}
use Rattle.word.specs.Step.{Step}
use Rattle.word.specs.Word.{end_kind, next, payload, is_due, tested, below}
use Rattle.word.proofs.Laws.{due_in, one_on}
use Rattle.feed_lengths.specs.Lengths.{words_taken}
use Rattle.feed_records.specs.Words.{update_kind, query_kind, key_kind, amount_kind, opens_key, opened, key_of, amount_of, key_words, key_payload, key_word, check_key, check_amount, update_step, query_step, body_of, update_body, query_body}
use Rattle.feed_keys.proofs.Places.{key_in}
use Rattle.feed_records.proofs.Places.{update_in}
use Rattle.feed.specs.declared.Recorded.{Recorded}
use Rattle.feed.specs.declared.Recorded.TheVariants as case
use Rattle.feed.specs.Record.{Carried, outcome_of, update_outcome, queried, opened_outcome, recorded}
use Rattle.feed.proofs.Cases.{carried_update, carried}
use Rattle.feed.proofs.Laws.{record_good}
use Rattle.feed_line.specs.declared.Line.{Line}
use Rattle.feed_line.specs.Line.{stops, refused_line, continues, is_end}
use Rattle.feed_lines.specs.Line.{line_of}
use Rattle.feed_lines.specs.Feed.{record_line}
use Rattle.feed_lines.specs.Step.{taken_by}

-- the number of a faulty word stops a feed
abbrev Faulty : ℕ → Type 0
Faulty s = (s ≡ 0) ⊎ (stops s ≡ true)

tested_faulty : (words : List ℕ) (p kind : ℕ) (holds : Bool) → Faulty (tested words p kind holds bad_payload).status
unfolding tested stops
tested_faulty words p kind holds =
    cases (is_due words p kind) (λ t. rw t (cases holds (λ h. rw h (inl refl)) (λ h. rw h (inr refl)))) (λ t. rw t (inr refl))

next_faulty : (s : Step) (f : ℕ → Step) → Faulty s.status → Faulty (f s.position).status → Faulty (next s f).status
unfolding next
next_faulty s f h k = cases (eqb s.status 0) (λ t. rw t k) (λ t. rw t h)

key_faulty : (k n : ℕ) (words : List ℕ) (p : ℕ) → Faulty (check_key k n words p).status
unfolding check_key key_word
key_faulty zero n words p = inl refl
key_faulty (suc k) n words p =
    next_faulty (key_word n words p) (λ q. check_key k (n - 3) words q) (tested_faulty words p key_kind (key_payload n (payload words p)))
    (key_faulty k (n - 3) words (key_word n words p).position)

update_faulty : (n : ℕ) (words : List ℕ) → Faulty (update_step n words).status
unfolding update_step check_amount below
update_faulty n words =
    let p = check_key (key_words n) n words 1 in
    next_faulty p (λ q. check_amount words q) (key_faulty (key_words n) n words 1)
    (next_faulty (below words p.position amount_kind (2 ^ 16)) (λ q. below words q amount_kind (2 ^ 16)) (tested_faulty words p.position _ _) (tested_faulty words _ _ _))

query_faulty : (n : ℕ) (words : List ℕ) → Faulty (query_step n words).status
unfolding query_step
query_faulty n words = key_faulty (key_words n) n words 1

nine : stops 9 ≡ true
unfolding stops
nine = refl

eight : stops 8 ≡ true
unfolding stops
eight = refl

-- a test that passed with those before it
pub next_passed : (s : Step) (f : ℕ → Step) → (next s f).status ≡ 0 → (s.status ≡ 0) × (next s f ≡ f s.position)
unfolding next
next_passed s f =
    cases (eqb s.status 0) (λ t. rw t (λ e. (eqb-true s.status 0 t, refl))) (λ t. rw t (λ e. absurd (true≢false (sym (eq-eqb s.status 0 e) ∙ t))))

-- words that all passed end where the record ends
key_end : (k n : ℕ) (words : List ℕ) (p : ℕ) → (check_key k n words p).status ≡ 0 → (check_key k n words p).position ≡ p + k
unfolding check_key key_word
key_end zero n words p e = omega arith
key_end (suc k) n words p e =
    let h = next_passed (key_word n words p) (λ q. check_key k (n - 3) words q) e in
    let one = one_on (key_word n words p) words p key_kind (key_payload n (payload words p)) bad_payload (λ z. omega arith) refl h.0 in
    let more = key_end k (n - 3) words (key_word n words p).position (sym (ap (λ (s : Step). s.status) h.1) ∙ e) in
    let at : (key_word n words p).position + k ≡ p + suc k = omega arith in
    ap (λ (s : Step). s.position) h.1 ∙ more ∙ at

update_end : (n : ℕ) (words : List ℕ) → (update_step n words).status ≡ 0 → (update_step n words).position ≡ 1 + key_words n + 2
unfolding update_step check_amount below
update_end n words e =
    let k = check_key (key_words n) n words 1 in
    let h = next_passed k (λ q. check_amount words q) e in
    let a = below words k.position amount_kind (2 ^ 16) in
    let g = next_passed a (λ q. below words q amount_kind (2 ^ 16)) (sym (ap (λ (s : Step). s.status) h.1) ∙ e) in
    let b = below words a.position amount_kind (2 ^ 16) in
    let same : update_step n words ≡ b = h.1 ∙ g.1 in
    let last = one_on b words a.position amount_kind _ bad_payload (λ z. omega arith) refl (sym (ap (λ (s : Step). s.status) same) ∙ e) in
    let first = one_on a words k.position amount_kind _ bad_payload (λ z. omega arith) refl g.0 in
    ap (λ (s : Step). s.position) same ∙ omega (arith, last, first, key_end (key_words n) n words 1 h.0)

-- the words of a sound record are lent
update_words_lem : (words : List ℕ) → is_due words 0 update_kind ≡ true → (update_step (payload words 0) words).status ≡ 0 → words_taken words ≤ length words
unfolding words_taken
update_words_lem words u e =
    let n = payload words 0 in
    rw u (omega (arith, update_in n words (due_in words 0 update_kind u), update_end n words e))

query_words_lem : (words : List ℕ) → is_due words 0 update_kind ≡ false → is_due words 0 query_kind ≡ true → (query_step (payload words 0) words).status ≡ 0
    → words_taken words ≤ length words
unfolding words_taken query_step
query_words_lem words u q e =
    let n = payload words 0 in
    rw (u, q) (omega (arith, key_in (key_words n) n words 1 (due_in words 0 query_kind q), key_end (key_words n) n words 1 e))

end_words_lem : (words : List ℕ) → is_due words 0 update_kind ≡ false → is_due words 0 query_kind ≡ false → is_due words 0 end_kind ≡ true → words_taken words ≤ length words
unfolding words_taken
end_words_lem words u q e = rw (u, q) (due_in words 0 end_kind e)

-- a number that is not 0 stops the feed
faulty_stops : (s : ℕ) → Faulty s → eqb s 0 ≡ false → stops s ≡ true
faulty_stops s h f = ⊎_elim (λ e. absurd (true≢false (sym (eq-eqb s 0 e) ∙ f))) (λ g. g) h

key_stops : (n : ℕ) → Faulty (bad_key n)
unfolding stops
key_stops n = cases (leb 1 n && leb n 64) (λ t. rw t (inl refl)) (λ t. rw t (inr refl))

taken_most : (l : Line) (words : List ℕ) → taken_by l words ≤ words_taken words
unfolding taken_by
taken_most l words = cases (continues l || is_end l) (λ t. rw t (omega arith)) (λ t. rw t (omega arith))

module _ (d w : ℕ) (memory : List ℕ) (before : ℕ) (words : List ℕ) (shape : bad_shape d w (length memory) ≡ 0) where
  abbrev key : List ℕ
  key = key_of (payload words 0) words

  abbrev amount : ℕ
  amount = amount_of (payload words 0) words

  -- to prove a thing of what the call does, prove it of a stop, and of an update, a query and the end whose words are lent
  module _ (P : Carried → Type 0)
      (stopping : (s p : ℕ) → stops s ≡ true → P (record { outcome = case.Refused s p; memory = memory }))
      (updates : words_taken words ≤ length words
      → P (record { outcome = outcome_of (updated d w memory key amount).answer case.Updated; memory = (updated d w memory key amount).memory }))
      (queries : words_taken words ≤ length words
      → P (record { outcome = outcome_of (estimated d w memory key) (case.Estimate (estimated d w memory key).value); memory = memory }))
      (ends : words_taken words ≤ length words → P (record { outcome = case.Ended; memory = memory })) where
    sound : P (carried d w memory words (opened before words))
    unfolding carried opened_outcome opened opens_key update_body query_body body_of carried_update update_outcome queried
    sound =
        let n = payload words 0 in
        cases (is_due words 0 update_kind)
        (λ u. rw u
        (cases (eqb (bad_key n) 0)
        (λ k. rw k
        (cases (eqb (update_step n words).status 0)
        (λ s. rw s (updates (update_words_lem words u (eqb-true _ 0 s))))
        (λ s. rw s (stopping (update_step n words).status (update_step n words).position (faulty_stops _ (update_faulty n words) s)))))
        (λ k. rw k (stopping (bad_key n) 0 (faulty_stops _ (key_stops n) k)))))
        (λ u. rw u
        (cases (is_due words 0 query_kind)
        (λ q. rw q
        (cases (eqb (bad_key n) 0)
        (λ k. rw k
        (cases (eqb (query_step n words).status 0)
        (λ s. rw s (queries (query_words_lem words u q (eqb-true _ 0 s))))
        (λ s. rw s (stopping (query_step n words).status (query_step n words).position (faulty_stops _ (query_faulty n words) s)))))
        (λ k. rw k (stopping (bad_key n) 0 (faulty_stops _ (key_stops n) k)))))
        (λ q. rw q
        (cases (is_due words 0 end_kind)
        (λ e. rw e (cases (eqb n (before % 2 ^ 28)) (λ b. rw b (ends (end_words_lem words u q e))) (λ b. rw b (stopping 9 0 nine))))
        (λ e. rw e (stopping 8 0 eight))))))

    record_cases : P (recorded d w memory before words)
    record_cases = rw (record_good d w memory before words shape) sound

  -- a record keeps the memory's length
  pub record_keeps : length (recorded d w memory before words).memory ≡ length memory
  unfolding updated
  record_keeps =
      record_cases (λ c. length c.memory ≡ length memory) (λ s p h. refl)
      (λ h.
      cases (eqb (updated d w memory key amount).answer.status 0)
      (λ t. (update_accepted d w memory key amount (eqb-true _ 0 t)).long)
      (λ t. ap length (finish_kept _ 0 _ memory t)))
      (λ h. refl)
      (λ h. refl)

  -- what it takes is lent
  pub record_lies : (records : ℕ) → taken_by (record_line d w memory before records words) words ≤ length words
  unfolding taken_by line_of refused_line continues is_end
  record_lies records =
      record_cases (λ c. taken_by (line_of c.outcome before records) words ≤ length words) (λ s p h. rw h (omega arith))
      (λ h. omega (arith, taken_most (line_of (outcome_of (updated d w memory key amount).answer case.Updated) before records) words))
      (λ h. omega (arith, taken_most (line_of (outcome_of (estimated d w memory key) (case.Estimate (estimated d w memory key).value)) before records) words))
      (λ h. h)

-- the same of what the code finds one after another
pub step_lies : (d w : ℕ) (memory : List ℕ) (before records : ℕ) (words : List ℕ) (r : Recorded) (l : Line) (n : ℕ) → bad_shape d w (length memory) ≡ 0
    → r ≡ (recorded d w memory before words).outcome → l ≡ line_of r before records → n ≡ taken_by l words → n ≤ length words
step_lies d w memory before records words r l n shape e f g = rw (g, f, e) (record_lies d w memory before words shape records)
