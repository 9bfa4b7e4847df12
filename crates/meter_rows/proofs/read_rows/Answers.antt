use mathlib.Core.Path.{sym, ap, ◌∙◌}
use Prim.Native.Nat.{ℕ, ◌-◌, ◌*◌, ◌/◌}
use native.Mathlib.Omega.{arith}
use mathlib.Core.List.{List}
use lib.ListN.{get_or, drop}
use Rattle.answer.specs.Refusals.{status}
use Rattle.group.specs.Results.{Reading}
use Rattle.meter_row.proofs.Results.{reading_status}
use Rattle.group.specs.Group.{read}
use Rattle.geometry.specs.Geometry.{stride}
use Rattle.answer.specs.Order.{earlier, earliest}
use Rattle.meter_memory.specs.Rows.{of_rows, group_at, least_or}
use Rattle.meter_memory.specs.Rows.{row_of}
use Rattle.geometry.proofs.Widths.{one_row}
use Rattle.meter_memory.proofs.Gather.{status_turn, status_end, least_start, least_turn, least_end, statuses_start}
use Rattle.meter_row.specs.Slots.{slot_status, slot_value}
use Rattle.meter_rows.proofs.read_rows.Goals as goal

-- the counter of row r
abbrev counter_of : ℕ → List ℕ → List ℕ → ℕ → Reading
counter_of w slots row r = read (group_at w row (get_or slots r 0 / 8)) (get_or slots r 0)

pub row_at-requires : goal.row_at-requires
row_at-requires c = one_row c.args.d c.args.w 0 c.requires.fact_2 c.requires.fact_1

pub read_row-c-requires : goal.read_row-c-requires
read_row-c-requires c = let p = c.requires in record { fact_1 = p.fact_2.0; fact_2 = c.row_at.ensures.result_len; fact_3 = p.fact_3 0 p.fact_1 }

pub loop-r-init : goal.loop-r-init
unfolding row_of
loop-r-init c = let a = c.args in
    let e = c.read_row-c.ensures ∙ ap (λ (row : List ℕ). counter_of a.w a.slots.now row 0) c.row_at.ensures.result_value in
    let s = ap (status {A = _}) c.and-status.ensures ∙ reading_status c.read_row-c.result _ e in
    let v = c.value_of-value.ensures ∙ ap (λ (x : Reading). x.value) e in (
      omega arith,
      omega arith,
      ap (λ (n : ℕ). earlier n (earliest (of_rows (slot_status a.w a.slots.now) (stride a.w) (a.d - 1) 1 (drop (1 * stride a.w) a.memory.now)))) s
          ∙ statuses_start (slot_status a.w a.slots.now) a.w a.d a.memory.now c.requires.fact_1,
      ap (λ (n : ℕ). least_or n (of_rows (slot_value a.w a.slots.now) (stride a.w) (a.d - 1) 1 (drop (1 * stride a.w) a.memory.now))) v
          ∙ least_start (slot_value a.w a.slots.now) a.w a.d a.memory.now c.requires.fact_1,
    )

pub row_at-requires-in-loop-r : goal.row_at-requires-in-loop-r
row_at-requires-in-loop-r c = one_row _ _ _ c.requires.fact_2 c.loop-r-test.true

pub bounds-slots-r : goal.bounds-slots-r
bounds-slots-r c = omega (arith, c.requires.fact_2.1)

pub read_row-c-requires-in-loop-r : goal.read_row-c-requires-in-loop-r
read_row-c-requires-in-loop-r c = let p = c.requires in record { fact_1 = p.fact_2.0; fact_2 = c.row_at-in-loop-r.ensures.result_len; fact_3 = p.fact_3 c.loop-r.r c.loop-r-test.true }

pub loop-r-preserved : goal.loop-r-preserved
unfolding row_of
loop-r-preserved c = let a = c.args in
    let l = c.loop-r in
    let x = c.read_row-c-in-loop-r in
    let e = x.ensures ∙ ap (λ (row : List ℕ). counter_of a.w a.slots.now row l.r) c.row_at-in-loop-r.ensures.result_value in
    let s = ap (status {A = _}) c.and.ensures ∙ reading_status x.result _ e in
    let v = c.value_of.ensures ∙ ap (λ (y : Reading). y.value) e in (
      omega arith,
      omega arith,
      rw c.first-status.ensures
          (status_turn (slot_status a.w a.slots.now) a.w a.d l.r a.memory.now (status l.status) (status c.and.result) (omega arith) s ∙ l.invariant.2),
      cc (least_turn (slot_value a.w a.slots.now) a.w a.d a.memory.now l.r l.value c.value_of.result (omega arith) v, l.invariant.3),
    )

pub returns : goal.returns
returns c = let a = c.args in
    let l = c.loop-r in record { status_value = sym (status_end (slot_status a.w a.slots.now) a.w a.d l.r a.memory.now (status l.status) (omega arith)) ∙ l.invariant.2; value_value = sym (least_end (slot_value a.w a.slots.now) a.w a.d a.memory.now l.r l.value (omega arith)) ∙ l.invariant.3 }
