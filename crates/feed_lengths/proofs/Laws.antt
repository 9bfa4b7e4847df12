-- How many words a record takes and needs: at least one, at most 25, as the first word tells.
use mathlib.Core.Path.{◌≡◌, refl}
use mathlib.Core.Bool.{Bool, true, false, cond, ◌&&◌}
use mathlib.Core.List.{List}
use Prim.Native.Nat.{ℕ, ◌+◌, ◌≤◌}
use native.Mathlib.Omega.{arith}
use borrow.Author.Tests.{leb-true, eqb-true}
use borrow.Table.Steps.{cases}
use lib.Dec.{eqb, leb}
use lib.ListN.{take}
use Rattle.std.specs.Prelude.{Result, Ok, Err}
use Rattle.std.specs.Result.{is_err}
use Rattle.answer.specs.declared.Refusal.{Refusal}
use Rattle.answer.specs.Refusals.{status}
use Rattle.answer.proofs.Refusals.{no_number}
use Rattle.answer.specs.Order.{unless}
use Rattle.geometry.specs.Checks.{bad_key}
use Rattle.word.specs.Word.{payload, is_due}
use Rattle.word.proofs.Laws.{both}
use Rattle.word.proofs.Before.{payload_same, due_same}
use Rattle.feed_keys.specs.Keys.{key_words}
use Rattle.feed_lengths.specs.Lengths.{update_kind, query_kind, words_taken, words_needed}

-- the status of a result that is refused, and of one that is not
pub some_refused : {A : Type 0} (r : Result A Refusal) → true ≡ is_err r → status r ≡ 0 → ⊥
unfolding status
some_refused (Ok v) e z = absurd (cc)
some_refused (Err x) e z = no_number x z

pub none_refused : {A : Type 0} (r : Result A Refusal) → false ≡ is_err r → status r ≡ 0
unfolding status
none_refused (Ok v) e = refl
none_refused (Err x) e = absurd (cc)

-- a key whose length passes fits the buffer that it is taken into
pub key_short : (n : ℕ) → bad_key n ≡ 0 → n ≤ 64
key_short n e = test (leb 1 n && leb n 64) refl e
  where
    test : (t : Bool) → (leb 1 n && leb n 64) ≡ t → unless t 4 ≡ 0 → n ≤ 64
    test true h k = leb-true n 64 (both (leb 1 n) (leb n 64) h).1
    test false h k = absurd (omega arith)

pub some_taken : (words : List ℕ) → 1 ≤ words_taken words
unfolding words_taken
some_taken words = update (is_due words 0 update_kind)
  where
    query : (t : Bool) → 1 ≤ cond t (1 + key_words (payload words 0)) 1
    query true = omega arith
    query false = omega arith

    update : (t : Bool) → 1 ≤ cond t (1 + key_words (payload words 0) + 2) (cond (is_due words 0 query_kind) (1 + key_words (payload words 0)) 1)
    update true = omega arith
    update false = query (is_due words 0 query_kind)

-- a record whose key length passes has at most 25 words
pub taken_most : (words : List ℕ) → bad_key (payload words 0) ≡ 0 → words_taken words ≤ 25
unfolding words_taken
taken_most words h =
    let l = key_short (payload words 0) h in
    cases (is_due words 0 update_kind) (λ u. rw u (omega arith))
    (λ u. rw u (cases (is_due words 0 query_kind) (λ q. rw q (omega arith)) (λ q. rw q (omega arith))))

pub some_needed : (words : List ℕ) → 1 ≤ words_needed words
unfolding words_needed
some_needed words = cases (eqb (bad_key (payload words 0)) 0) (λ t. rw t (some_taken words)) (λ t. rw t (omega arith))

pub needed_most : (words : List ℕ) → words_needed words ≤ 25
unfolding words_needed
needed_most words =
    cases (eqb (bad_key (payload words 0)) 0) (λ t. rw t (taken_most words (eqb-true _ 0 t))) (λ t. rw t (omega arith))

module _ (words : List ℕ) (n : ℕ) where
  abbrev front : List ℕ
  front = take n words

  -- the first word tells how many words are taken and needed
  pub taken_same : 1 ≤ n → words_taken front ≡ words_taken words
  unfolding words_taken
  taken_same h = rw (due_same words n 0 update_kind h, due_same words n 0 query_kind h, payload_same words n 0 h)

  pub needed_same : 1 ≤ n → words_needed front ≡ words_needed words
  unfolding words_needed
  needed_same h = rw (payload_same words n 0 h, taken_same h)
