use mathlib.Core.Path.{◌≡◌, sym, ap, ◌∙◌}
use Prim.Native.Nat.{ℕ, ◌-◌}
use lib.ListN.{take}
use borrow.Author.Rules.{rules}
use Rattle.answer.specs.declared.Answer.{Answer}
use Rattle.meter.specs.Meter.{estimated}
use Rattle.feed.specs.declared.Recorded.{Recorded}
use Rattle.feed.specs.declared.Recorded.TheVariants as case
use Rattle.feed_keys.specs.Keys.{key_of}
use Rattle.feed_records.specs.Words.{query_body}
use Rattle.feed.specs.Record.{outcome_of, queried}
use Rattle.feed_lengths.proofs.Laws.{key_short}
use Rattle.std.specs.Prelude.{Result}
use Rattle.word.specs.declared.Fault.{Fault}
use Rattle.feed_records.specs.Bodies.{as_body}
use Rattle.feed_records.specs.Answers.{body_answer}
use Rattle.feed.proofs.Laws.{lent, call_passes, told_ok, told_err}
use Rattle.feed.proofs.query.Goals as goal
use Rattle.feed.proofs.query.Goals.{After-estimate_checked, In-Ok}

-- the estimate that was called, and what the record makes of it
abbrev called : After-estimate_checked → Answer
called k =
    let a = k.args in
    estimated a.d a.w a.memory.now (key_of a.n a.words.now)

abbrev meant : After-estimate_checked → Recorded
meant k =
    let a = k.args in
    queried a.d a.w a.memory.now a.n a.words.now (query_body a.n a.words.now)

-- the key that is lent is the record's
key_is : (m : In-Ok) →
    let a = m.args in
    take (a.n - 0) m.query_body-body.new.key ≡ key_of a.n a.words.now
key_is m =
    let a = m.args in
    lent a.n _ (key_of a.n a.words.now) (m.query_body-body.ensures.key_after (ap (λ (x : Result ℕ Fault). (body_answer (as_body x)).status) m.in-Ok.is))

called_is : (k : After-estimate_checked) →
    let a = k.args in
    estimated a.d a.w a.memory.now (take (a.n - 0) k.query_body-body.new.key) ≡ called k
called_is k =
    let a = k.args in
    ap (estimated a.d a.w a.memory.now) (key_is (goal.at.After-estimate_checked k).In-Ok)

meant_is : (k : After-estimate_checked) → meant k ≡ outcome_of (called k) (case.Estimate (called k).value)
unfolding queried
meant_is k =
    rw (sym k.query_body-body.ensures.value ∙ ap as_body k.in-Ok.is)

pub query_body-body-requires : goal.query_body-body-requires
query_body-body-requires c = record { fact_1 = key_short _ c.requires.fact_2; fact_2 = search rules }

pub returns-in_default : goal.returns-in_default
unfolding queried
returns-in_default c = let e = c.in_default.is in
    rw (← c.query_body-body.ensures.value, e) (rw e at c.faulty.ensures)

pub slice_bounds-estimate_checked-end : goal.slice_bounds-estimate_checked-end
slice_bounds-estimate_checked-end c = search (rules, key_short c.args.n c.requires.fact_2)

pub estimate_checked-requires : goal.estimate_checked-requires
estimate_checked-requires c = let a = c.args in
    call_passes a.d a.w a.memory.now a.n a.words.now _ c.requires.fact_1 c.requires.fact_2 (key_is (goal.at.estimate_checked-requires c).In-Ok)

pub returns-in-Ok-estimate_checked : goal.returns-in-Ok-estimate_checked
returns-in-Ok-estimate_checked c = let k = (goal.at.returns-in-Ok-estimate_checked c).After-estimate_checked in
    sym (told_ok _ _ (c.in-Ok-estimate_checked.ensures ∙ called_is k)) ∙ sym (meant_is k)

pub returns-in-Err : goal.returns-in-Err
returns-in-Err c = let k = (goal.at.returns-in-Err c).After-estimate_checked in
    c.refused.ensures ∙ sym (told_err _ _ _ (c.in-Err.ensures ∙ called_is k)) ∙ sym (meant_is k)
