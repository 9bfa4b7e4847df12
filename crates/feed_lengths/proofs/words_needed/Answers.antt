use mathlib.Core.Path.{◌≡◌, sym, ap, ◌∙◌}
use native.Mathlib.Omega.{arith}
use borrow.Author.Tests.{eq-eqb, ne_eqb}
use Rattle.geometry.specs.Checks.{bad_key}
use Rattle.word.specs.Word.{payload}
use Rattle.feed_lengths.specs.Lengths.{words_needed}
use Rattle.feed_lengths.proofs.Laws.{some_refused, none_refused, some_taken, taken_most}
use Rattle.feed_lengths.proofs.words_needed.Goals as goal
use Rattle.feed_lengths.proofs.words_needed.Goals.{Else-is_err}

-- a key length that passes, as the definition finds it
passes : (c : Else-is_err) → bad_key (payload c.args.words.now 0) ≡ 0
passes c = ap bad_key (sym c.payload.ensures.value) ∙ sym c.check_key.ensures ∙ none_refused _ c.if-is_err.ensures.value

pub returns-then-is_err-clause-value : goal.returns-then-is_err-clause-value
unfolding words_needed
returns-then-is_err-clause-value c = rw (← c.payload.ensures.value, ← c.check_key.ensures, ne_eqb _ 0 (some_refused _ c.if-is_err.ensures.value))

pub returns-clause-value : goal.returns-clause-value
unfolding words_needed
returns-clause-value c = rw (eq-eqb _ 0 (passes (goal.at.returns-clause-value c).Else-is_err)) c.words_taken.ensures

pub returns-clause-lower_bound : goal.returns-clause-lower_bound
returns-clause-lower_bound c = let ws = c.args.words.now in
    let e = c.words_taken.ensures in
    (omega (arith, e, some_taken ws), omega (arith, e, taken_most ws (passes (goal.at.returns-clause-lower_bound c).Else-is_err)))
