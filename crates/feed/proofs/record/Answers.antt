use Rattle.feed.proofs.Places.{all_of}
use Rattle.feed_records.proofs.Laws.{bad_key_in, opened_good}
use Rattle.feed_records.specs.Openings.{Opening}
use Rattle.feed_records.specs.Openings as opening
use Rattle.feed_records.specs.Words.{opened}
use Rattle.answer.specs.Refusals.{number}
use Rattle.answer.proofs.Refusals.{no_number, ok_status}
use Rattle.feed.proofs.Laws.{shape_bad, record_good, record_bad}
use mathlib.Core.Path.{◌≡◌, refl, sym, ap, ◌∙◌}
use lib.ListN.{length}
use Rattle.geometry.specs.Checks.{bad_shape}
use Rattle.feed.specs.Record.{opened_outcome, recorded}
use Rattle.feed.proofs.Cases.{carried, told}
use Rattle.feed.proofs.record.Goals as goal
use Rattle.feed.proofs.record.Goals.{After-first_word}

-- what was tested before a record is carried out
shape_good : (f : After-first_word) →
    let a = f.args in
    bad_shape a.d a.w (length a.memory.now) ≡ 0
shape_good f = ok_status _ _ f.in_default.ensures

key_good : (f : After-first_word) (o : Opening) →
    let a = f.args in
    o ≡ opened a.before a.words.now → bad_key_in o ≡ 0
key_good f o e =
    let a = f.args in
    rw e (opened_good a.before a.words.now)

opened_is : (f : After-first_word) (o : Opening) →
    let a = f.args in
    o ≡ opened a.before a.words.now → recorded a.d a.w a.memory.now a.before a.words.now ≡ carried a.d a.w a.memory.now a.words.now o
opened_is f o e =
    let a = f.args in
    record_good a.d a.w a.memory.now a.before a.words.now (shape_good f) ∙ ap (carried a.d a.w a.memory.now a.words.now) (sym e)

pub returns-in-Err : goal.returns-in-Err
returns-in-Err c = let a = c.args in
    let s = c.in-Err.ensures in
    let e = record_bad a.d a.w a.memory.now a.before a.words.now (number c.in-Err.refusal) (shape_bad _ _ _ s) (no_number c.in-Err.refusal) in
    let r = all_of a.d a.w a.memory.now a.before a.words.now _ _ _ e c.refused.ensures refl in
    record { value = r.0; memory_after = r.1.0; result_in_bounds = r.1.1 }

pub update-requires : goal.update-requires
update-requires c = let f = (goal.at.update-requires c).After-first_word in
    record { fact_1 = shape_good f; fact_2 = key_good f (opening.Update c.in-Ok-Update.length) (rw c.in-Ok-Update.field-0-is at c.in-Ok-Update.ensures) }

pub query-requires : goal.query-requires
query-requires c = let f = (goal.at.query-requires c).After-first_word in
    record { fact_1 = shape_good f; fact_2 = key_good f (opening.Query c.in-Ok-Query.length) (rw c.in-Ok-Query.field-0-is at c.in-Ok-Query.ensures) }

pub returns-in-Ok-Update : goal.returns-in-Ok-Update
unfolding carried opened_outcome
returns-in-Ok-Update c = let a = c.args in
    let e = opened_is (goal.at.returns-in-Ok-Update c).After-first_word (opening.Update c.in-Ok-Update.length) (rw c.in-Ok-Update.field-0-is at c.in-Ok-Update.ensures) in
    let u = told a.d a.w a.memory.now _ a.words.now _ _ (c.update.ensures.value, c.update.ensures.memory_after) in
    let r = all_of a.d a.w a.memory.now a.before a.words.now _ _ _ e u.0 u.1 in
    record { value = r.0; memory_after = r.1.0; result_in_bounds = r.1.1 }

pub returns-in-Ok-Query : goal.returns-in-Ok-Query
unfolding carried opened_outcome
returns-in-Ok-Query c = let a = c.args in
    let e = opened_is (goal.at.returns-in-Ok-Query c).After-first_word (opening.Query c.in-Ok-Query.length) (rw c.in-Ok-Query.field-0-is at c.in-Ok-Query.ensures) in
    let r = all_of a.d a.w a.memory.now a.before a.words.now _ _ _ e c.query.ensures refl in
    record { value = r.0; memory_after = r.1.0; result_in_bounds = r.1.1 }

pub returns-in-Ok-End : goal.returns-in-Ok-End
unfolding carried opened_outcome
returns-in-Ok-End c = let a = c.args in
    let e = opened_is (goal.at.returns-in-Ok-End c).After-first_word opening.End (rw c.in-Ok-End.field-0-is at c.in-Ok-End.ensures) in
    let r = all_of a.d a.w a.memory.now a.before a.words.now _ _ _ e refl refl in
    record { value = r.0; memory_after = r.1.0; result_in_bounds = r.1.1 }

pub returns-in-Err-first_word : goal.returns-in-Err-first_word
unfolding carried opened_outcome
returns-in-Err-first_word c = let a = c.args in
    let e = opened_is (goal.at.returns-in-Err-first_word c).After-first_word (opening.Refused (number c.in-Err-first_word.refusal)) c.in-Err-first_word.ensures in
    let r = all_of a.d a.w a.memory.now a.before a.words.now _ _ _ e c.refused-in-Err-first_word.ensures refl in
    record { value = r.0; memory_after = r.1.0; result_in_bounds = r.1.1 }
