-- A refused image's place is a lent word's index, or the number of words lent.
use mathlib.Core.Path.{◌≡◌, sym, ap, ◌∙◌}
use mathlib.Core.Bool.{cond}
use mathlib.Core.List.{List}
use Prim.Native.Nat.{ℕ, zero, suc, ◌*◌, ◌/◌, ◌%◌, ◌^◌, ◌≤◌}
use native.Mathlib.Omega.{arith}
use borrow.Table.Steps.{cases}
use lib.Dec.{eqb}
use lib.ListN.{length}
use Rattle.answer.specs.declared.Answer.{Answer}
use Rattle.answer.specs.Numbers.{bad_payload, bad_word, other_meter}
use Rattle.answer.specs.Answers.{Done}
use Rattle.geometry.specs.Checks.{bad_shape}
use Rattle.word.specs.Word.{head_kind, end_kind, go, stop, next, payload, tested, below}
use Rattle.word.proofs.Places.{In, tested_in, below_in, next_in}
use Rattle.image_format.specs.Image.{head_payload}
use Rattle.image_format.specs.Read.{check_head, check_fours, check_end, checked, read_answer, finish_read, taken}
use Rattle.image.proofs.Sharp.{fours_cut}

end_in : (words : List ℕ) (p : ℕ) → p ≤ length words → In (length words) (check_end words p)
unfolding check_end
end_in words p h =
    next_in (length words) (tested words p end_kind (eqb (payload words p) (p % 2 ^ 28)) bad_payload) (λ q. cond (eqb (length words) q) (go q) (stop bad_word q))
    (tested_in words p end_kind (eqb (payload words p) (p % 2 ^ 28)) bad_payload h)
    (λ q l. cases (eqb (length words) q) (λ t. rw t l) (λ t. rw t l))

head_in : (d w : ℕ) (words : List ℕ) → In (length words) (check_head d w words)
unfolding check_head
head_in d w words =
    next_in (length words) (below words 0 head_kind (2 ^ 9)) (λ p. tested words 0 head_kind (eqb (payload words 0) (head_payload d w)) other_meter)
    (below_in words 0 head_kind (2 ^ 9) (omega arith)) (λ q l. tested_in words 0 head_kind (eqb (payload words 0) (head_payload d w)) other_meter (omega arith))

pub checked_in : (d w : ℕ) (words : List ℕ) → In (length words) (checked d w words)
unfolding checked
checked_in d w words =
    next_in (length words) (check_head d w words) (λ p. next (check_fours (d * (w / 32)) words p) (λ q. check_end words q)) (head_in d w words)
    (λ p l. next_in (length words) (check_fours (d * (w / 32)) words p) (λ q. check_end words q) ((fours_cut words 0 (d * (w / 32)) p).ahead.inside l) (λ q k. end_in words q k))

pub place_in : (d w : ℕ) (memory words : List ℕ) → (taken d w memory words).answer.position ≤ length words
unfolding taken read_answer finish_read
place_in d w memory words = after (bad_shape d w (length memory))
  where
    after : (s : ℕ) → (read_answer s (checked d w words)).position ≤ length words
    after zero = cases (eqb (checked d w words).status 0) (λ t. rw t (omega arith)) (λ t. rw t (checked_in d w words))
    after (suc s) = omega arith

-- what the contract of reading says of an answer and of a memory
pub all_of : (d w : ℕ) (memory words : List ℕ) (x : Done) (r : Answer) (m : List ℕ) → taken d w memory words ≡ x → r ≡ x.answer → m ≡ x.memory
    → (r ≡ (taken d w memory words).answer) × ((m ≡ (taken d w memory words).memory) × (r.position ≤ length words))
all_of d w memory words x r m e f g =
    let a : r ≡ (taken d w memory words).answer = f ∙ ap (λ (y : Done). y.answer) (sym e) in
    (a, (g ∙ ap (λ (y : Done). y.memory) (sym e), rw a (place_in d w memory words)))
