-- A faulty word's place is a lent word's index, or the number of words lent.
use mathlib.Core.Path.{◌≡◌}
use mathlib.Core.List.{List}
use Prim.Native.Nat.{ℕ, ◌^◌, ◌≤◌}
use lib.ListN.{length}
use Rattle.answer.specs.Numbers.{bad_word}
use Rattle.word.specs.Word.{is_due, below}
use Rattle.word.proofs.Places.{In, below_in, next_in}
use Rattle.feed_keys.proofs.Places.{key_in}
use Rattle.feed_records.specs.Openings as opening
use Rattle.feed_keys.specs.Keys.{key_words, check_key}
use Rattle.feed_records.specs.Words.{amount_kind, opened, check_amount, update_step}

amount_in : (words : List ℕ) (p : ℕ) → p ≤ length words → In (length words) (check_amount words p)
unfolding check_amount
amount_in words p h =
    next_in (length words) (below words p amount_kind (2 ^ 16)) (λ q. below words q amount_kind (2 ^ 16)) (below_in words p amount_kind (2 ^ 16) h) (λ q l. below_in words q amount_kind (2 ^ 16) l)

pub update_in : (n : ℕ) (words : List ℕ) → 1 ≤ length words → In (length words) (update_step n words)
unfolding update_step
update_in n words h = next_in (length words) (check_key (key_words n) n words 1) (λ p. check_amount words p) (key_in (key_words n) n words 1 h) (λ q l. amount_in words q l)

-- a first word that is missing opens nothing
pub missing : (before : ℕ) (words : List ℕ) → length words ≡ 0 → opened before words ≡ opening.Refused bad_word
unfolding opened is_due
missing before words e = rw e
