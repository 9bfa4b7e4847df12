use mathlib.Core.Path.{◌≡◌, sym, ap, ◌∙◌}
use Prim.Native.Nat.{ℕ, ◌%◌, ◌^◌}
use borrow.Author.Tests.{eq-eqb, ne_eqb}
use lib.Dec.{eqb}
use lib.ListN.{length}
use Rattle.answer.specs.Numbers.{bad_payload}
use Rattle.answer.specs.Refusals.{number}
use Rattle.word.specs.Step.{step}
use Rattle.word.specs.Word.{end_kind, payload, tested}
use Rattle.word.proofs.Results.{next_passed, next_handed_on}
use Rattle.image_format.specs.Read.{check_end}
use Rattle.image_checker.proofs.check_end.Goals as goal
use Rattle.image_checker.proofs.check_end.Goals.{After-tested}

-- the end's own test
own : (c : After-tested) → let ws = c.args.words.now in
    let p = c.args.p in
    step c.tested.result ≡ tested ws p end_kind (eqb (payload ws p) (p % 2 ^ 28)) bad_payload
unfolding number
own c = let ws = c.args.words.now in
    let p = c.args.p in
    c.tested.ensures ∙ ap (λ (x : ℕ). tested ws p end_kind (eqb x (p % 2 ^ 28)) bad_payload) c.payload.ensures.value

pub returns-in_err-at : goal.returns-in_err-at
unfolding check_end
returns-in_err-at c = next_handed_on _ _ _ _ c.from_residual.ensures.1 (ap step (sym c.in_err-at.was) ∙ own (goal.at.returns-in_err-at c).After-tested)

pub returns-then-words-at : goal.returns-then-words-at
unfolding check_end number
returns-then-words-at c =
    next_passed _ _ _ _ (ap step (sym c.in_ok-at.was) ∙ own (goal.at.returns-then-words-at c).After-tested) (rw (ne_eqb (length c.args.words.now) c.in_ok-at.at c.if-words-at.true))

pub returns : goal.returns
unfolding check_end
returns c =
    next_passed _ _ _ _ (ap step (sym c.in_ok-at.was) ∙ own (goal.at.returns c).After-tested) (rw (eq-eqb (length c.args.words.now) c.in_ok-at.at c.if-words-at.false))
