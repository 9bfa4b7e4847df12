-- The head's call looks at no word past the head; a refused head's place is 0: the head's index, or the number of words if there is none;
-- and a head with more than the largest width is refused with 2.
use mathlib.Core.Path.{◌≡◌, sym, ap, ◌∙◌}
use mathlib.Core.Bool.{true}
use mathlib.Core.List.{List, []}
use Prim.Native.Nat.{ℕ, ◌/◌, ◌%◌, ◌^◌, ◌≤◌, ◌<◌}
use native.Mathlib.Omega.{arith}
use borrow.Table.Steps.{cases}
use lib.Dec.{eqb}
use lib.ListN.{length, take}
use lib.Pow.{pow-lt}
use Rattle.std.specs.Prelude.{Result, Ok, Err, IsErrAnd}
use Rattle.answer.specs.declared.Refusal.{Refusal}
use Rattle.answer.specs.Refusals.{number, status}
use Rattle.answer.specs.Answers.{refused, refused_at}
use Rattle.answer.specs.Numbers.{invalid_width}
use Rattle.geometry.specs.Geometry.{valid_depth, largest_log}
use Rattle.geometry.proofs.Widths.{too_wide}
use Rattle.word.specs.declared.Fault.{Fault}
use Rattle.word.specs.Step.{step}
use Rattle.word.proofs.Results.{number_above, next_ok, next_err}
use Rattle.feed_head.specs.Results.{head_answer}
use borrow.Author.Tests.{ne_eqb}
use Rattle.word.specs.Word.{head_kind, go, stop, next, payload, below}
use Rattle.word.proofs.Before.{payload_same, below_same}
use Rattle.word.proofs.Places.{In, below_in, next_in}
use Rattle.feed_head.specs.Head.{head_depth, head_width, bad_geometry, head_step, headed}

pub head_alone : (words : List ℕ) (n : ℕ) → 1 ≤ n → headed (take n words) ≡ headed words
unfolding headed head_step
head_alone words n h = rw (below_same words n 0 head_kind (2 ^ 9) h, payload_same words n 0 h)

step_in : (words : List ℕ) → In (length words) (head_step words)
unfolding head_step
step_in words =
    next_in (length words) (below words 0 head_kind (2 ^ 9)) (λ p. stop (bad_geometry (payload words 0)) 0) (below_in words 0 head_kind (2 ^ 9) (omega arith)) (λ q l. omega arith)

pub head_place : (words : List ℕ) → (headed words).position ≤ length words
unfolding headed
head_place words = cases (eqb (head_step words).status 0) (λ t. rw t (omega arith)) (λ t. rw t (step_in words))

-- a head whose word passes and whose depth is valid, with a larger logarithm than the largest width has
pub head_too_wide : (words : List ℕ) → below words 0 head_kind (2 ^ 9) ≡ go 1 → valid_depth (head_depth (payload words 0)) ≡ true → largest_log < payload words 0 / 16 % 32
    → headed words ≡ refused invalid_width
unfolding headed head_step bad_geometry head_width next
head_too_wide words passes v h =
    let log = payload words 0 / 16 % 32 in
    rw (passes, too_wide (head_depth (payload words 0)) (2 ^ log) [] v (pow-lt {i = largest_log} {j = log} h))

-- the answer of a head that is not sound, and of one that is
pub fault_answer : (words : List ℕ) (f : Fault) → step (Err f) ≡ head_step words → headed words ≡ head_answer (Err f)
unfolding headed
fault_answer words f e = rw (← e, ne_eqb (number f.refusal) 0 (λ z. omega (arith, number_above f.refusal)))

pub handed_answer : (r : Result ℕ Fault) (f : Fault) (words : List ℕ) → IsErrAnd r (λ x. x ≡ f) → step (Err f) ≡ below words 0 head_kind (2 ^ 9) → head_answer r ≡ headed words
unfolding head_step
handed_answer (Ok v) f words h e = absurd h
handed_answer (Err x) f words h e = rw h (sym (fault_answer words f (sym (next_err _ _ f e))))

module _ (words : List ℕ) (q v : ℕ) (passes : step (Ok q) ≡ below words 0 head_kind (2 ^ 9)) (read : v ≡ payload words 0) where
  geometry_step : head_step words ≡ stop (bad_geometry v) 0
  unfolding head_step
  geometry_step = next_ok _ _ q passes ∙ ap (λ (p : ℕ). stop (bad_geometry p) 0) (sym read)

  -- a head whose word passes, by its geometry
  pub sound_answer : {A : Type 0} (x : A) → status {A = A} (Ok x) ≡ bad_geometry v → head_answer (Ok v) ≡ headed words
  unfolding headed status
  sound_answer x e = rw (geometry_step, ← e, ← read)

  pub unsound_answer : (A : Type 0) (r : Refusal) → status {A = A} (Err r) ≡ bad_geometry v → refused_at (number r) 0 ≡ headed words
  unfolding headed status
  unsound_answer A r e = rw (geometry_step, ← e, ne_eqb (number r) 0 (λ z. omega (arith, number_above r)))
