-- A record whose words are sound is all there: as many words as it takes are lent.
use mathlib.Core.Path.{◌≡◌, refl}
use mathlib.Core.Bool.{Bool, true, false, cond, ◌&&◌}
use mathlib.Core.Logic.{◌⊎◌, inl, inr}
use mathlib.Core.List.{List}
use Prim.Native.Nat.{ℕ, ◌+◌, ◌%◌, ◌^◌, ◌≤◌}
use native.Mathlib.Omega.{arith}
use borrow.Author.Tests.{eqb-false}
use borrow.Table.Steps.{cases}
use lib.Dec.{eqb, ltb, leb}
use lib.ListN.{length}
use Rattle.answer.specs.Numbers.{bad_payload, bad_word}
use Rattle.geometry.specs.Checks.{bad_key}
use Rattle.word.specs.Word.{end_kind, go, payload, is_due, below}
use Rattle.word.proofs.Laws.{due_in}
use Rattle.word.proofs.Passed.{goes, passed, below_is}
use Rattle.word.proofs.Places.{tested_status, next_status}
use Rattle.feed_records.specs.Openings.{Opening}
use Rattle.feed_records.specs.Openings as opening
use Rattle.feed_keys.specs.Keys.{key_words, check_key}
use Rattle.feed_lengths.specs.Lengths.{words_taken}
use Rattle.feed_records.specs.Words.{update_kind, query_kind, amount_kind, opens_key, opened, check_amount, update_step, query_step}
use Rattle.feed_keys.proofs.Places.{key_in, key_ends, key_status}
use Rattle.feed_records.proofs.Places.{update_in}

-- the number of a record's first faulty word, or 0
abbrev pub fault : List ℕ → Opening → ℕ
fault words (opening.Update n) = (update_step n words).status
fault words (opening.Query n) = (query_step n words).status
fault words opening.End = 0
fault words (opening.Refused s) = s

-- where tests that pass end
amount_ends : (words : List ℕ) (p q : ℕ) → check_amount words p ≡ go q → q ≡ p + 2
unfolding check_amount
amount_ends words p q e =
    let s = below words p amount_kind (2 ^ 16) in
    let t = passed s (λ r. below words r amount_kind (2 ^ 16)) q e in
    let x = below_is words p amount_kind (2 ^ 16) s.position t.here in
    let y = below_is words s.position amount_kind (2 ^ 16) q t.after in
    omega (arith, x.position, y.position)

update_ends : (n : ℕ) (words : List ℕ) → (update_step n words).status ≡ 0 → (update_step n words).position ≡ 1 + key_words n + 2
unfolding update_step
update_ends n words e =
    let s = check_key (key_words n) n words 1 in
    let q = (update_step n words).position in
    let t = passed s (λ p. check_amount words p) q (goes (update_step n words) e) in
    omega (arith, key_ends (key_words n) n words 1 s.position t.here, amount_ends words s.position q t.after)

query_ends : (n : ℕ) (words : List ℕ) → (query_step n words).status ≡ 0 → (query_step n words).position ≡ 1 + key_words n
unfolding query_step
query_ends n words e = key_ends (key_words n) n words 1 (query_step n words).position (goes (query_step n words) e)

-- a record that is opened has passed its key length
opened_fault : (n : ℕ) (words : List ℕ) (o : Opening) → fault words (opens_key n o) ≡ 0 → fault words o ≡ 0
unfolding opens_key
opened_fault n words o e = cases (eqb (bad_key n) 0) (λ t. rw t at e) (λ t. absurd (eqb-false (bad_key n) 0 t (rw t at e)))

pub sound_taken : (before : ℕ) (words : List ℕ) → fault words (opened before words) ≡ 0 → words_taken words ≤ length words
unfolding opened words_taken query_step
sound_taken before words e =
    let n = payload words 0 in
    cases (is_due words 0 update_kind)
    (λ t.
    let f = opened_fault n words (opening.Update n) (rw t at e) in
    rw t (omega (arith, update_ends n words f, update_in n words (due_in words 0 update_kind t))))
    (λ t. cases (is_due words 0 query_kind)
    (λ u.
    let f = opened_fault n words (opening.Query n) (rw (t, u) at e) in
    rw (t, u) (omega (arith, query_ends n words f, key_in (key_words n) n words 1 (due_in words 0 query_kind u))))
    (λ u. cases (is_due words 0 end_kind)
    (λ v. rw (t, u) (due_in words 0 end_kind v))
    (λ v. absurd (omega (arith, rw (t, u, v) at e)))))

-- the numbers that a record's words are refused by
abbrev pub OfWords : ℕ → Type 0
OfWords s = (s ≡ 0) ⊎ ((s ≡ 4) ⊎ ((s ≡ 8) ⊎ (s ≡ 9)))

zero_of : OfWords 0
zero_of = inl refl

word_of : OfWords bad_word
word_of = inr (inr (inl refl))

payload_of : OfWords bad_payload
payload_of = inr (inr (inr refl))

below_status : (words : List ℕ) (p : ℕ) → OfWords (below words p amount_kind (2 ^ 16)).status
unfolding below
below_status words p = tested_status words p amount_kind (ltb (payload words p) (2 ^ 16)) bad_payload OfWords zero_of payload_of word_of

amount_status : (words : List ℕ) (p : ℕ) → OfWords (check_amount words p).status
unfolding check_amount
amount_status words p = next_status (below words p amount_kind (2 ^ 16)) (λ q. below words q amount_kind (2 ^ 16)) OfWords (below_status words p) (λ q. below_status words q)

update_status_lem : (n : ℕ) (words : List ℕ) → OfWords (update_step n words).status
unfolding update_step
update_status_lem n words = next_status (check_key (key_words n) n words 1) (λ p. check_amount words p) OfWords (key_status OfWords zero_of payload_of word_of (key_words n) n words 1) (λ q. amount_status words q)

query_status : (n : ℕ) (words : List ℕ) → OfWords (query_step n words).status
unfolding query_step
query_status n words = key_status OfWords zero_of payload_of word_of (key_words n) n words 1

either_status : (words : List ℕ) (t : Bool) (a b : Opening) → OfWords (fault words a) → OfWords (fault words b) → OfWords (fault words (cond t a b))
either_status words true a b h k = h
either_status words false a b h k = k

key_of : (t : Bool) → OfWords (cond t 0 4)
key_of true = zero_of
key_of false = inr (inl refl)

opens_status : (n : ℕ) (words : List ℕ) (o : Opening) → OfWords (fault words o) → OfWords (fault words (opens_key n o))
unfolding opens_key
opens_status n words o h = either_status words (eqb (bad_key n) 0) o (opening.Refused (bad_key n)) h (key_of (leb 1 n && leb n 64))

pub opened_status : (before : ℕ) (words : List ℕ) → OfWords (fault words (opened before words))
unfolding opened
opened_status before words =
    let n = payload words 0 in
    either_status words (is_due words 0 update_kind) _ _ (opens_status n words (opening.Update n) (update_status_lem n words))
    (either_status words (is_due words 0 query_kind) _ _ (opens_status n words (opening.Query n) (query_status n words))
    (either_status words (is_due words 0 end_kind) _ _
    (either_status words (eqb n (before % 2 ^ 28)) opening.End (opening.Refused bad_payload) zero_of payload_of) word_of))
