use mathlib.Core.Path.{◌≡◌, sym, ap, ◌∙◌}
use mathlib.Core.Bool.{cond}
use mathlib.Core.List.{List}
use Prim.Native.Nat.{ℕ, ◌<◌}
use lib.Dec.{eqb}
use lib.ListN.{get_or}
use Rattle.std.specs.Prelude.{Result, Ok, Err, IfOk}
use Rattle.answer.specs.declared.Refusal.{Refusal}
use Rattle.answer.specs.Refusals.{status}
use Rattle.meter_row.specs.declared.Found.{Found}
use Rattle.answer.specs.Order.{earliest}
use Rattle.hash.specs.Hash.{basis}
use Rattle.geometry.specs.Geometry.{stride}
use Rattle.meter_memory.specs.Rows.{map_rows, of_rows, least}
use Rattle.meter_keys.specs.Keys.{key_slot}
use Rattle.meter_row.specs.Row.{update_status, update_row}
use Rattle.meter.specs.Meter.{bad_call, updated, estimated}
use Rattle.meter.proofs.Calls.{call_rows, updated_rows}
use Rattle.meter.proofs.Slots.{left_value, status_by_key, added_by_key, left_by_key, one_long, one_status, one_added, one_left}
use Rattle.meter.proofs.Reading.{rows_status, value_left}
use Rattle.meter.proofs.update_reading.Goals as goal
use Rattle.meter.proofs.update_reading.Goals.{After-key_slots-slots}

pub row_slot-slot-requires : goal.row_slot-slot-requires
row_slot-slot-requires c = (call_rows _ _ _ _ c.requires).1.0

pub update_one-one-requires : goal.update_one-one-requires
update_one-one-requires c = let p = (call_rows _ _ _ _ c.requires).1 in record { fact_1 = p.0; fact_2 = one_long _ _ _ c.if-d-eq1.true p.2; fact_3 = c.row_slot-slot.ensures.upper_bound }

-- what a meter answers and becomes, by what its rows answered, the least value that they have then, and what the memory became
module _ (d w : ℕ) (memory key : List ℕ) (amount : ℕ) (good : bad_call d w memory key ≡ 0) where
  abbrev Done : Result ℕ Refusal → List ℕ → Type 0
  Done a m = (status a ≡ (updated d w memory key amount).answer.status)
      × ((m ≡ (updated d w memory key amount).memory) × IfOk a (λ v. v ≡ (estimated d w m key).value))

  -- a figure is that of a call that is not refused
  figured : (a : Result ℕ Refusal) (s x v : ℕ) → status a ≡ s → IfOk a (λ y. y ≡ x) → (s ≡ 0 → x ≡ v) → IfOk a (λ y. y ≡ v)
  unfolding status
  figured (Ok y) s x v e h k = h ∙ k (sym e)
  figured (Err r) s x v e h k = h

  by_rows : (u : Found) (a : Result ℕ Refusal) (m : List ℕ) → status a ≡ status u.status → IfOk a (λ v. v ≡ u.value)
      → status u.status ≡ earliest (of_rows (update_status basis w key amount) (stride w) d 0 memory)
      → u.value ≡ least (of_rows (left_value w key amount) (stride w) d 0 memory)
      → m ≡ cond (eqb (status u.status) 0) (map_rows (update_row basis w key amount) (stride w) d 0 memory) memory
      → Done a m
  by_rows u a m s is found value after =
      let t = rows_status d w memory key amount (status u.status) good found in
      let n = (updated_rows d w memory key amount good (status u.status) m found after).1 in (
        s ∙ t,
        (n, figured a (status u.status) u.value (estimated d w m key).value s is (λ e. value_left d w memory key amount (sym t ∙ e) m u.value good n value)),
      )

pub returns-then-d-eq1 : goal.returns-then-d-eq1
returns-then-d-eq1 c = let u = c.update_one-one in
    let a = c.args in
    let long = one_long a.d a.w _ c.if-d-eq1.true (call_rows _ _ _ _ c.requires).1.2 in
    let at = c.row_slot-slot.ensures.value ∙ ap (λ (b : List ℕ). key_slot c.start.result.state a.w b 0) c.whole-bytes.ensures in
    let start = c.start.ensures in
    let r = by_rows a.d a.w a.memory.now a.key.now a.amount c.requires u.result c.figure.result u.new.row c.figure.ensures.status_value c.figure.ensures.value
    (u.ensures.status_value ∙ one_status a.d a.w a.memory.now a.key.now c.if-d-eq1.true long start at a.amount)
    (u.ensures.value_value ∙ one_left a.d a.w a.memory.now a.key.now c.if-d-eq1.true long start at a.amount)
    (u.ensures.row_after
    ∙ ap (λ (m : List ℕ). cond (eqb (status u.result.status) 0) m a.memory.now) (one_added a.d a.w a.memory.now a.key.now c.if-d-eq1.true long start at a.amount)) in
    record { status_value = r.0; memory_after = r.1.0; value_value = r.1.1 }

pub key_slots-slots-requires : goal.key_slots-slots-requires
key_slots-slots-requires c = let p = (call_rows _ _ _ _ c.requires).1 in record { fact_1 = p.0; fact_2 = p.1 }

pub update_rows-all-requires : goal.update_rows-all-requires
update_rows-all-requires c = let p = call_rows _ _ _ _ c.requires in record { fact_1 = p.0; fact_2 = p.1; fact_3 = c.key_slots-slots.ensures.by_index_2 }

-- the slots are the key's
key_slots_at : (c : After-key_slots-slots)
    → let a = c.args in
    (r : ℕ) → r < a.d → get_or c.key_slots-slots.result r 0 ≡ key_slot c.start-2.result.state a.w a.key.now r
key_slots_at c r h = c.key_slots-slots.ensures.by_index r h ∙ ap (λ (b : List ℕ). key_slot c.start-2.result.state c.args.w b r) c.whole-bytes.ensures

pub returns : goal.returns
returns c = let u = c.update_rows-all in
    let a = c.args in
    let start = c.start-2.ensures in
    let slots = c.key_slots-slots.result in
    let r = by_rows a.d a.w a.memory.now a.key.now a.amount c.requires u.result c.figure-2.result u.new.memory c.figure-2.ensures.status_value c.figure-2.ensures.value
    (u.ensures.status_value ∙ status_by_key a.d a.w a.memory.now a.key.now slots start (key_slots_at (goal.at.returns c).After-key_slots-slots) a.amount)
    (u.ensures.value_value ∙ left_by_key a.d a.w a.memory.now a.key.now slots start (key_slots_at (goal.at.returns c).After-key_slots-slots) a.amount)
    (u.ensures.memory_after
    ∙ ap (λ (m : List ℕ). cond (eqb (status u.result.status) 0) m a.memory.now) (added_by_key a.d a.w a.memory.now a.key.now slots start (key_slots_at (goal.at.returns c).After-key_slots-slots) a.amount)) in
    record { status_value = r.0; memory_after = r.1.0; value_value = r.1.1 }
