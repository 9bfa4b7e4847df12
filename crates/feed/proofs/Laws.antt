-- Laws of a feed's records that the code's proofs use.
use mathlib.Core.Path.{◌≡◌, refl, sym, ap, ◌∙◌}
use mathlib.Core.List.{List}
use Prim.Native.Nat.{ℕ, zero, suc, ◌-◌}
use native.Mathlib.Nat.{sub-zero}
use lib.ListN.{length, take}
use Rattle.geometry.specs.Checks.{bad_shape, bad_key}
use Rattle.meter.specs.Meter.{bad_call}
use Rattle.meter.proofs.Calls.{call_key}
use Rattle.feed.specs.declared.Recorded.TheVariants as case
use Rattle.std.specs.Prelude.{Ok, Err, ⊤}
use borrow.Author.Tests.{ne_eqb}
use Rattle.answer.specs.declared.Answer.{Answer}
use Rattle.answer.specs.declared.Refusal.{Refusal}
use Rattle.answer.specs.Refusals.{number, status}
use Rattle.answer.specs.Answers.{refused, told, done}
use Rattle.answer.proofs.Refusals.{no_number}
use Rattle.feed.specs.declared.Recorded.{Recorded}
use Rattle.feed.specs.Record.{refusal, outcome_of, record_outcome, recorded}
use Rattle.feed_keys.specs.Keys.{key_of}
use Rattle.feed_records.specs.Words.{opened}
use Rattle.feed_keys.proofs.Laws.{key_length}
use Rattle.feed.proofs.Cases.{carried, carried_after, by_cases}

-- what a call of the meter comes to: what was asked of it, or its refusal
pub done_ok : (v : ⊤) (a : Answer) (r : Recorded) → done (Ok v) ≡ a → outcome_of a r ≡ r
unfolding done outcome_of
done_ok v a r e = rw (← e)

pub done_err : (x : Refusal) (a : Answer) (r : Recorded) → done (Err x) ≡ a → outcome_of a r ≡ refusal (refused (number x))
unfolding done outcome_of
done_err x a r e = rw (← e, ne_eqb (number x) 0 (no_number x))

pub told_ok : (v : ℕ) (a : Answer) → told (Ok v) ≡ a → outcome_of a (case.Estimate a.value) ≡ case.Estimate v
unfolding told outcome_of
told_ok v a e = rw (← e)

pub told_err : (x : Refusal) (a : Answer) (r : Recorded) → told (Err x) ≡ a → outcome_of a r ≡ refusal (refused (number x))
unfolding told outcome_of
told_err x a r e = rw (← e, ne_eqb (number x) 0 (no_number x))

-- a call with a record's key passes the tests that the record has passed
pub call_passes : (d w : ℕ) (memory : List ℕ) (n : ℕ) (words key : List ℕ) → bad_shape d w (length memory) ≡ 0 → bad_key n ≡ 0 → key ≡ key_of n words
    → bad_call d w memory key ≡ 0
call_passes d w memory n words key s k e =
    sym (call_key d w memory key s) ∙ ap bad_key (ap length e ∙ key_length n words 0) ∙ k

-- the part of a buffer that is lent
pub lent : (n : ℕ) (xs ys : List ℕ) → take n xs ≡ ys → take (n - 0) xs ≡ ys
lent n xs ys e = rw (sub-zero n) e

-- the number of a refusal is the status of its result
pub shape_bad : (A : Type 0) (x : Refusal) (n : ℕ) → status {A = A} (Err x) ≡ n → n ≡ number x
unfolding status
shape_bad A x n e = sym e

-- a call whose own arguments pass, and one whose do not
pub record_good : (d w : ℕ) (memory : List ℕ) (before : ℕ) (words : List ℕ) → bad_shape d w (length memory) ≡ 0
    → recorded d w memory before words ≡ carried d w memory words (opened before words)
unfolding carried_after
record_good d w memory before words e = by_cases d w memory before words ∙ rw e

pub record_bad : (d w : ℕ) (memory : List ℕ) (before : ℕ) (words : List ℕ) (s : ℕ) → bad_shape d w (length memory) ≡ s → (s ≡ 0 → ⊥)
    → recorded d w memory before words ≡ record { outcome = case.Refused s 0; memory = memory }
unfolding carried_after record_outcome
record_bad d w memory before words zero e h = absurd (h refl)
record_bad d w memory before words (suc s) e h = by_cases d w memory before words ∙ rw e
