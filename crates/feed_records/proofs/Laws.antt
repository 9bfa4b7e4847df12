-- Laws of a record's words that the code's proofs use.
use mathlib.Core.Path.{◌≡◌, refl, ◌∙◌}
use mathlib.Core.Bool.{Bool, true, false, cond}
use mathlib.Core.List.{List}
use Prim.Native.Nat.{ℕ, ◌%◌, ◌^◌}
use native.Mathlib.Omega.{arith}
use lib.Dec.{eqb}
use borrow.Author.Tests.{eqb-true, ne_eqb}
use Rattle.geometry.specs.Checks.{bad_key}
use Rattle.word.specs.Step.{Step}
use Rattle.word.specs.Word.{end_kind, payload, is_due}
use Rattle.feed_records.specs.Openings.{Opening, as_opening}
use Rattle.feed_records.specs.Openings as opening
use Rattle.feed_records.specs.Bodies.{Body}
use Rattle.feed_records.specs.Bodies as body
use Rattle.std.specs.Prelude.{Result, Ok, Err, IsErrAnd}
use Rattle.word.specs.declared.Fault.{Fault}
use Rattle.word.specs.Step.{step}
use Rattle.word.proofs.Results.{number_above}
use Rattle.answer.specs.declared.Refusal.{Refusal}
use Rattle.answer.specs.Refusals.{number, status}
use Rattle.answer.proofs.Refusals.{no_number, ok_status}
use Rattle.feed_records.specs.declared.Opening.{Opening as Found}
use Rattle.feed_records.specs.Bodies.{as_body}
use Rattle.feed_records.specs.Words.{update_kind, query_kind, opens_key, opened, body_of}

-- a body whose words are sound, and one whose words are not
pub sound_body : (s : Step) (q a : ℕ) → step (Ok q) ≡ s → body.Sound a ≡ body_of s a
unfolding body_of
sound_body s q a e = rw (← e)

pub faulty_body : (r : Result ℕ Fault) (f : Fault) (s : Step) (a : ℕ) → IsErrAnd r (λ x. x ≡ f) → step (Err f) ≡ s → as_body r ≡ body_of s a
unfolding body_of
faulty_body (Ok q) f s a h e = absurd h
faulty_body (Err x) f s a h e = rw (h, ← e, ne_eqb (number f.refusal) 0 (λ z. omega (arith, number_above f.refusal)))

-- a record whose key length is refused, and one whose key length passes
pub key_refused : (A : Type 0) (r : Result Found Refusal) (x : Refusal) (n : ℕ) (o : Opening) → IsErrAnd r (λ y. y ≡ x) → status {A = A} (Err x) ≡ bad_key n → as_opening r ≡ opens_key n o
unfolding opens_key status
key_refused A (Ok f) x n o h e = absurd h
key_refused A (Err y) x n o h e = rw (h, ← e, ne_eqb (number x) 0 (no_number x))

pub key_passed : {A : Type 0} (v : A) (n : ℕ) (o : Opening) → status (Ok v) ≡ bad_key n → o ≡ opens_key n o
unfolding opens_key
key_passed v n o e = rw (ok_status v (bad_key n) e)

-- what is wrong with an opened record's key length; the length has passed, so nothing is
abbrev pub bad_key_in : Opening → ℕ
bad_key_in (opening.Update n) = bad_key n
bad_key_in (opening.Query n) = bad_key n
bad_key_in opening.End = 0
bad_key_in (opening.Refused s) = 0

either_good : (t : Bool) (a b : Opening) → bad_key_in a ≡ 0 → bad_key_in b ≡ 0 → bad_key_in (cond t a b) ≡ 0
either_good true a b h k = h
either_good false a b h k = k

opens_good : (n : ℕ) (o : Opening) → bad_key_in o ≡ bad_key n → bad_key_in (opens_key n o) ≡ 0
unfolding opens_key
opens_good n o e = test (eqb (bad_key n) 0) refl
  where
    test : (t : Bool) → eqb (bad_key n) 0 ≡ t → bad_key_in (cond t o (opening.Refused (bad_key n))) ≡ 0
    test true h = e ∙ eqb-true (bad_key n) 0 h
    test false h = refl

pub opened_good : (before : ℕ) (words : List ℕ) → bad_key_in (opened before words) ≡ 0
unfolding opened
opened_good before words =
    either_good (is_due words 0 update_kind) _ _ (opens_good (payload words 0) (opening.Update (payload words 0)) refl)
    (either_good (is_due words 0 query_kind) _ _ (opens_good (payload words 0) (opening.Query (payload words 0)) refl)
    (either_good (is_due words 0 end_kind) _ _
    (either_good (eqb (payload words 0) (before % 2 ^ 28)) opening.End (opening.Refused 9) refl refl) refl))
