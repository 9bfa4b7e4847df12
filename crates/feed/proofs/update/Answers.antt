use mathlib.Core.Path.{◌≡◌, sym, ap, ◌∙◌}
use mathlib.Core.List.{List}
use Prim.Native.Nat.{ℕ, ◌-◌}
use lib.ListN.{take}
use borrow.Author.Rules.{rules}
use Rattle.answer.specs.Answers.{Done}
use Rattle.meter.specs.Meter.{updated}
use Rattle.std.specs.Prelude.{Result}
use Rattle.word.specs.declared.Fault.{Fault}
use Rattle.feed_records.specs.Bodies.{as_body}
use Rattle.feed.specs.declared.Recorded.TheVariants as case
use Rattle.feed_records.specs.Answers.{body_answer}
use Rattle.feed_keys.specs.Keys.{key_of}
use Rattle.feed_records.specs.Words.{update_body}
use Rattle.feed.specs.declared.Recorded.{Recorded}
use Rattle.feed.specs.Record.{Carried, outcome_of, update_outcome, update_memory, finish_record}
use Rattle.feed_lengths.proofs.Laws.{key_short}
use Rattle.feed.proofs.Cases.{carried_update, tell}
use Rattle.feed.proofs.Laws.{lent, call_passes, done_ok, done_err}
use Rattle.feed.proofs.update.Goals as goal
use Rattle.feed.proofs.update.Goals.{After-update_checked, In-Ok}

-- the update that was called, and what the record makes of it
abbrev called : After-update_checked → Done
called k =
    let a = k.args in
    updated a.d a.w a.memory.now (key_of a.n a.words.now) k.in-Ok.amount

abbrev meant : After-update_checked → Carried
meant k =
    let a = k.args in
    carried_update a.d a.w a.memory.now a.n a.words.now (update_body a.n a.words.now)

-- the key that is lent is the record's
key_is : (b : In-Ok) →
    let a = b.args in
    take (a.n - 0) b.update_body-body.new.key ≡ key_of a.n a.words.now
key_is b =
    let a = b.args in
    lent a.n _ (key_of a.n a.words.now) (b.update_body-body.ensures.key_after (ap (λ (x : Result ℕ Fault). (body_answer (as_body x)).status) b.in-Ok.is))

called_is : (k : After-update_checked) →
    let a = k.args in
    updated a.d a.w a.memory.now (take (a.n - 0) k.update_body-body.new.key) k.in-Ok.amount ≡ called k
called_is k =
    let a = k.args in
    ap (λ (x : List ℕ). updated a.d a.w a.memory.now x k.in-Ok.amount) (key_is (goal.at.After-update_checked k).In-Ok)

meant_is : (k : After-update_checked) → meant k ≡ record { outcome = outcome_of (called k).answer case.Updated; memory = (called k).memory }
unfolding carried_update update_outcome
meant_is k =
    rw (sym k.update_body-body.ensures.value ∙ ap as_body k.in-Ok.is)

-- the contract, by the outcome and memory of that update
told_as : (k : After-update_checked) (r : Recorded) (m : List ℕ) → r ≡ outcome_of (called k).answer case.Updated → m ≡ (called k).memory →
    let a = k.args in
    (r ≡ update_outcome a.d a.w a.memory.now a.n a.words.now (update_body a.n a.words.now))
    × (m ≡ (finish_record r (update_memory a.d a.w a.memory.now a.n a.words.now) a.memory.now).memory)
told_as k r m e f =
    let a = k.args in
    let z = sym (meant_is k) in
    tell a.d a.w a.memory.now a.n a.words.now r m (e ∙ ap (λ (c : Carried). c.outcome) z) (f ∙ ap (λ (c : Carried). c.memory) z)

pub update_body-body-requires : goal.update_body-body-requires
update_body-body-requires c = record { fact_1 = key_short _ c.requires.fact_2; fact_2 = search rules }

pub returns-in_default : goal.returns-in_default
unfolding carried_update update_outcome
returns-in_default c = let a = c.args in
    let b = c.update_body-body.ensures.value in
    let e = c.in_default.is in
    let r = tell a.d a.w a.memory.now a.n a.words.now _ _ (rw (← b, e) (rw e at c.faulty.ensures)) (rw (← b, e)) in
    record { value = r.0; memory_after = r.1 }

pub slice_bounds-update_checked-end : goal.slice_bounds-update_checked-end
slice_bounds-update_checked-end c = search (rules, key_short c.args.n c.requires.fact_2)

pub update_checked-requires : goal.update_checked-requires
update_checked-requires c = let a = c.args in
    call_passes a.d a.w a.memory.now a.n a.words.now _ c.requires.fact_1 c.requires.fact_2 (key_is (goal.at.update_checked-requires c).In-Ok)

pub returns-in-Ok-update_checked : goal.returns-in-Ok-update_checked
returns-in-Ok-update_checked c = let k = (goal.at.returns-in-Ok-update_checked c).After-update_checked in
    let z = called_is k in
    let r = told_as k _ _ (sym (done_ok _ _ _ (c.in-Ok-update_checked.ensures.value ∙ ap (λ (x : Done). x.answer) z))) (c.update_checked.ensures.memory_after ∙ ap (λ (x : Done). x.memory) z) in
    record { value = r.0; memory_after = r.1 }

pub returns-in-Err : goal.returns-in-Err
returns-in-Err c = let k = (goal.at.returns-in-Err c).After-update_checked in
    let z = called_is k in
    let r = told_as k _ _ (c.refused.ensures ∙ sym (done_err _ _ _ (c.in-Err.ensures.value ∙ ap (λ (x : Done). x.answer) z))) (c.update_checked.ensures.memory_after ∙ ap (λ (x : Done). x.memory) z) in
    record { value = r.0; memory_after = r.1 }
