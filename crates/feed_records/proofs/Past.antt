-- What a record's words are found to be depends on no word past the record.
use mathlib.Core.Path.{◌≡◌}
use mathlib.Core.Bool.{Bool, true, false, cond}
use mathlib.Core.List.{List}
use Prim.Native.Nat.{ℕ, ◌+◌, ◌%◌, ◌^◌, ◌≤◌}
use native.Mathlib.Omega.{arith}
use borrow.Table.Steps.{cases}
use lib.Dec.{eqb}
use lib.ListN.{take}
use Rattle.answer.specs.Numbers.{bad_payload, bad_word}
use Rattle.geometry.specs.Checks.{bad_key}
use Rattle.word.specs.Word.{end_kind, next, payload, is_due, below}
use Rattle.word.proofs.Places.{below_on}
use Rattle.word.proofs.Before.{next_same, payload_same, due_same, below_same}
use Rattle.feed_keys.proofs.Places.{key_on, key_words_same}
use Rattle.feed_records.specs.Openings.{Opening}
use Rattle.feed_records.specs.Openings as opening
use Rattle.feed_keys.specs.Keys.{key_words, check_key}
use Rattle.feed_lengths.specs.Lengths.{words_taken, words_needed}
use Rattle.feed_records.specs.Words.{update_kind, query_kind, amount_kind, opens_key, opened, check_amount, amount_of, update_step, query_step, update_body, query_body}

-- the words that a first word opens
unfoldable pub taken : Opening → ℕ
taken (opening.Update n) = 1 + key_words n + 2
taken (opening.Query n) = 1 + key_words n
taken opening.End = 1
taken (opening.Refused s) = 1

key_taken : (n : ℕ) (o : Opening) (k : ℕ) → taken o ≤ k → 1 ≤ k → taken (opens_key n o) ≤ k
unfolding opens_key taken
key_taken n o k h l = test (eqb (bad_key n) 0)
  where
    test : (t : Bool) → taken (cond t o (opening.Refused (bad_key n))) ≤ k
    test true = h
    test false = l

opened_taken : (before : ℕ) (words : List ℕ) → taken (opened before words) ≤ words_taken words
unfolding opened words_taken taken
opened_taken before words = update (is_due words 0 update_kind)
  where
    n : ℕ
    n = payload words 0

    number : (t : Bool) → taken (cond t opening.End (opening.Refused bad_payload)) ≤ 1
    number true = omega arith
    number false = omega arith

    end : (t : Bool) → taken (cond t (cond (eqb n (before % 2 ^ 28)) opening.End (opening.Refused bad_payload)) (opening.Refused bad_word)) ≤ 1
    end true = number (eqb n (before % 2 ^ 28))
    end false = omega arith

    query : (t : Bool) → taken (cond t (opens_key n (opening.Query n)) (cond (is_due words 0 end_kind) (cond (eqb n (before % 2 ^ 28)) opening.End (opening.Refused bad_payload)) (opening.Refused bad_word)))
        ≤ cond t (1 + key_words n) 1
    query true = key_taken n (opening.Query n) (1 + key_words n) (omega arith) (omega arith)
    query false = end (is_due words 0 end_kind)

    update : (t : Bool) → taken (cond t (opens_key n (opening.Update n))
        (cond (is_due words 0 query_kind) (opens_key n (opening.Query n)) (cond (is_due words 0 end_kind) (cond (eqb n (before % 2 ^ 28)) opening.End (opening.Refused bad_payload)) (opening.Refused bad_word))))
        ≤ cond t (1 + key_words n + 2) (cond (is_due words 0 query_kind) (1 + key_words n) 1)
    update true = key_taken n (opening.Update n) (1 + key_words n + 2) (omega arith) (omega arith)
    update false = query (is_due words 0 query_kind)

-- a key length that does not pass opens nothing
none_opened : (before : ℕ) (words : List ℕ) → eqb (bad_key (payload words 0)) 0 ≡ false → taken (opened before words) ≤ 1
unfolding opened opens_key taken
none_opened before words t =
    cases (is_due words 0 update_kind) (λ u. rw (u, t) (omega arith))
    (λ u. rw u (cases (is_due words 0 query_kind) (λ q. rw (q, t) (omega arith))
    (λ q. rw q (cases (is_due words 0 end_kind)
    (λ e. rw e (cases (eqb (payload words 0) (before % 2 ^ 28)) (λ b. rw b (omega arith)) (λ b. rw b (omega arith)))) (λ e. rw e (omega arith))))))

-- what a first word opens needs no more words
pub opened_needed : (before : ℕ) (words : List ℕ) → taken (opened before words) ≤ words_needed words
unfolding words_needed
opened_needed before words =
    cases (eqb (bad_key (payload words 0)) 0) (λ t. rw t (opened_taken before words)) (λ t. rw t (none_opened before words t))

module _ (words : List ℕ) (n : ℕ) where
  abbrev front : List ℕ
  front = take n words

  amount_same : (p : ℕ) → p + 2 ≤ n → check_amount front p ≡ check_amount words p
  unfolding check_amount
  amount_same p h =
      let l = below_on words p amount_kind (2 ^ 16) in
      next_same (below front p amount_kind (2 ^ 16)) (below words p amount_kind (2 ^ 16)) (λ q. below front q amount_kind (2 ^ 16)) (λ q. below words q amount_kind (2 ^ 16))
      (below_same words n p amount_kind (2 ^ 16) (omega arith)) (below_same words n (below words p amount_kind (2 ^ 16)).position amount_kind (2 ^ 16) (omega arith))

  pub update_same : (m : ℕ) → 1 + key_words m + 2 ≤ n → update_body m front ≡ update_body m words
  unfolding update_body update_step amount_of
  update_same m h =
      let l = key_on (key_words m) m words 1 in
      let s : next (check_key (key_words m) m front 1) (λ p. check_amount front p) ≡ next (check_key (key_words m) m words 1) (λ p. check_amount words p) =
      next_same (check_key (key_words m) m front 1) (check_key (key_words m) m words 1) (λ p. check_amount front p) (λ p. check_amount words p) (key_words_same words n (key_words m) m 1 (omega arith))
      (amount_same (check_key (key_words m) m words 1).position (omega arith)) in
      rw (s, payload_same words n (1 + key_words m) (omega arith), payload_same words n (2 + key_words m) (omega arith))

  pub query_same : (m : ℕ) → 1 + key_words m ≤ n → query_body m front ≡ query_body m words
  unfolding query_body query_step
  query_same m h = rw (key_words_same words n (key_words m) m 1 h)

  pub opened_same : (before : ℕ) → 1 ≤ n → opened before front ≡ opened before words
  unfolding opened
  opened_same before h = rw (due_same words n 0 update_kind h, due_same words n 0 query_kind h, due_same words n 0 end_kind h, payload_same words n 0 h)
