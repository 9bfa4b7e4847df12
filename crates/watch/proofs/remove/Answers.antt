use mathlib.Core.Path.{◌≡◌, refl, sym, ◌∙◌}
use mathlib.Core.List.{[], ◌∷◌}
use borrow.Author.Tests.{not-true, not-false}
use lib.ListN.{length}
use Rattle.answer.specs.Answers.{answer_of, done}
use Rattle.answer.specs.Order.{first_of}
use Rattle.answer.specs.Refusals.{number}
use Rattle.answer.proofs.Refusals.{ok_status, err_status}
use Rattle.answer.proofs.Answers.{done_handed}
use Rattle.geometry.specs.Checks.{bad_key}
use Rattle.watch_sound.proofs.Lengths.{usage_holds}
use Rattle.watch_checks.specs.Checks.{bad_list}
use Rattle.watch_checks.proofs.Lines.{list_long, key_long, arguments_none}
use Rattle.watch.proofs.Calls.{removed_bad, removed_broken, removed_good}
use Rattle.watch.proofs.remove.Goals as goal
use Rattle.watch.proofs.remove.Goals.{In_ok-check_arguments}

pub returns-in_err-check_arguments : goal.returns-in_err-check_arguments
returns-in_err-check_arguments c = let a = c.args in
    let e = c.in_err-check_arguments.ensures in
    let p = removed_bad a.list.now a.key.now _ refl (err_status _ _ _ e) in record { value = done_handed _ _ _ e _ c.from_residual.ensures.1 ∙ p.0; list_after = p.1 }

-- lines 3 and 4 have passed
passed : (c : In_ok-check_arguments)
    → let a = c.args in
    first_of (bad_list a.list.now ∷ bad_key (length a.key.now) ∷ []) ≡ 0
passed c = ok_status _ _ c.in_ok-check_arguments.ensures

pub usage_of-found-requires : goal.usage_of-found-requires
usage_of-found-requires c = let a = c.args in
    list_long a.list.now (arguments_none a.list.now a.key.now (passed c)).0

pub returns-then-not-found : goal.returns-then-not-found
unfolding done number answer_of
returns-then-not-found c = let a = c.args in
    let p = removed_broken a.list.now a.key.now (passed (goal.at.returns-then-not-found c).In_ok-check_arguments) (sym c.usage_of-found.ensures.sound_value ∙ not-true _ c.if-not-found.true) in record { value = p.0; list_after = p.1 }

pub take_off-requires : goal.take_off-requires
take_off-requires c = let a = c.args in
    let p = arguments_none a.list.now a.key.now (passed (goal.at.take_off-requires c).In_ok-check_arguments) in record { fact_1 = usage_holds (list_long a.list.now p.0) (sym c.usage_of-found.ensures.sound_value ∙ not-false _ c.if-not-found.false) c.usage_of-found.ensures.places_value; fact_2 = key_long a.key.now p.1 }

pub returns : goal.returns
unfolding done answer_of
returns c = let a = c.args in
    let p = removed_good a.list.now a.key.now (passed (goal.at.returns c).In_ok-check_arguments) (sym c.usage_of-found.ensures.sound_value ∙ not-false _ c.if-not-found.false) in record { value = p.0; list_after = c.take_off.ensures ∙ p.1 }
