-- Results as steps: what a reader's result says of the tests that it stands for, and of those after it.
use mathlib.Core.Path.{◌≡◌, sym, ◌∙◌}
use Prim.Native.Nat.{ℕ}
use native.Mathlib.Omega.{arith}
use Rattle.std.specs.Prelude.{Result, Ok, Err, IsErrAnd}
use borrow.Author.Tests.{ne_eqb}
use Rattle.answer.specs.Refusals.{number}
pub use Rattle.answer.proofs.Refusals.{positive as number_above}
use Rattle.word.specs.declared.Fault.{Fault}
use Rattle.word.specs.Step.{Step, step}
use Rattle.word.specs.Word.{next}

-- the tests after one that passed, and after a fault
pub next_ok : (t : Step) (g : ℕ → Step) (q : ℕ) → step (Ok q) ≡ t → next t g ≡ g q
unfolding next
next_ok t g q e = rw (← e)

pub next_err : (t : Step) (g : ℕ → Step) (f : Fault) → step (Err f) ≡ t → next t g ≡ step (Err f)
unfolding next
next_err t g f e = rw (← e, ne_eqb (number f.refusal) 0 (λ z. omega (arith, number_above f.refusal)))

-- what comes of the tests after one that passed comes of all
pub next_passed : (s t : Step) (g : ℕ → Step) (q : ℕ) → step (Ok q) ≡ t → s ≡ g q → s ≡ next t g
next_passed s t g q e h = h ∙ sym (next_ok t g q e)

-- a fault handed on by `?`: that of a test, and that of tests of which it is the first
pub handed_on : (r : Result ℕ Fault) (f : Fault) (t : Step) → IsErrAnd r (λ x. x ≡ f) → step (Err f) ≡ t → step r ≡ t
handed_on (Ok q) f t h e = absurd h
handed_on (Err x) f t h e = rw h e

pub next_handed_on : (r : Result ℕ Fault) (f : Fault) (t : Step) (g : ℕ → Step) → IsErrAnd r (λ x. x ≡ f) → step (Err f) ≡ t → step r ≡ next t g
next_handed_on r f t g h e = handed_on r f (next t g) h (sym (next_err t g f e))
