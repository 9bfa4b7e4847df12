use mathlib.Core.Path.{◌≡◌, refl, ap, ap₂, ◌∙◌}
use mathlib.Core.List.{List}
use Prim.Native.Nat.{ℕ, ◌<◌}
use Rattle.group.specs.Results.{Reading}
use Rattle.answer.specs.Refusals.{status}
use Rattle.answer.specs.Answers.{answer_of, told}
use Rattle.answer.proofs.Answers.{told_handed}
use lib.ListN.{get_or}
use Rattle.meter_keys.specs.Keys.{key_slot}
use Rattle.meter.proofs.Calls.{call_rows, estimated_good}
use Rattle.meter.proofs.Slots.{read_status_by_key, read_value_by_key, one_long, one_read_status, one_read_value}
use Rattle.meter.proofs.estimate_checked.Goals as goal

pub row_slot-requires : goal.row_slot-requires
row_slot-requires c = (call_rows _ _ _ _ c.requires).1.0

pub read_row-requires : goal.read_row-requires
read_row-requires c = let p = (call_rows _ _ _ _ c.requires).1 in record { fact_1 = p.0; fact_2 = one_long _ _ _ c.if-d-eq1.true p.2; fact_3 = c.row_slot.ensures.upper_bound }

pub returns-in_err-c : goal.returns-in_err-c
unfolding status
returns-in_err-c c = let found = c.in_err-c.ensures in
    let a = c.args in
    let long = one_long a.d a.w _ c.if-d-eq1.true (call_rows _ _ _ _ c.requires).1.2 in
    let at = c.row_slot.ensures.value ∙ ap (λ (b : List ℕ). key_slot c.start.result.state a.w b 0) c.whole-bytes.ensures in
    let start = c.start.ensures in
    let status_value = ap (λ (x : Reading). x.status) found ∙ one_read_status a.d a.w a.memory.now a.key.now c.if-d-eq1.true long start at in
    let value = ap (λ (x : Reading). x.value) found ∙ one_read_value a.d a.w a.memory.now a.key.now c.if-d-eq1.true long start at in
    told_handed Unit _ _ refl _ c.from_residual.ensures.1 ∙ ap₂ answer_of status_value value ∙ estimated_good a.d a.w a.memory.now a.key.now c.requires

pub returns-then-d-eq1 : goal.returns-then-d-eq1
unfolding told answer_of
returns-then-d-eq1 c = let found = c.in_ok-c.ensures in
    let a = c.args in
    let long = one_long a.d a.w _ c.if-d-eq1.true (call_rows _ _ _ _ c.requires).1.2 in
    let at = c.row_slot.ensures.value ∙ ap (λ (b : List ℕ). key_slot c.start.result.state a.w b 0) c.whole-bytes.ensures in
    let start = c.start.ensures in
    let status_value = ap (λ (x : Reading). x.status) found ∙ one_read_status a.d a.w a.memory.now a.key.now c.if-d-eq1.true long start at in
    let value = ap (λ (x : Reading). x.value) found ∙ one_read_value a.d a.w a.memory.now a.key.now c.if-d-eq1.true long start at in
    ap₂ answer_of status_value value ∙ estimated_good a.d a.w a.memory.now a.key.now c.requires

pub key_slots-slots-requires : goal.key_slots-slots-requires
key_slots-slots-requires c = let p = (call_rows _ _ _ _ c.requires).1 in record { fact_1 = p.0; fact_2 = p.1 }

pub read_rows-found-requires : goal.read_rows-found-requires
read_rows-found-requires c = let p = call_rows _ _ _ _ c.requires in record { fact_1 = p.0; fact_2 = p.1; fact_3 = c.key_slots-slots.ensures.by_index_2 }

pub returns : goal.returns
returns c = let found = c.read_rows-found.ensures in
    let a = c.args in
    let slots = c.key_slots-slots in
    let start = c.start-2.ensures in
    let at : (r : ℕ) → r < a.d → get_or slots.result r 0 ≡ key_slot c.start-2.result.state a.w a.key.now r =
    λ r h. slots.ensures.by_index r h ∙ ap (λ (b : List ℕ). key_slot c.start-2.result.state a.w b r) c.whole-bytes.ensures in
    let status = found.status_value ∙ read_status_by_key a.d a.w a.memory.now a.key.now slots.result start at in
    let value = found.value_value ∙ read_value_by_key a.d a.w a.memory.now a.key.now slots.result start at in
    c.figure.ensures.answer ∙ ap₂ answer_of status value ∙ estimated_good a.d a.w a.memory.now a.key.now c.requires
