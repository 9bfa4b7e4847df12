use mathlib.Core.Path.{refl, sym, ap, ◌∙◌}
use mathlib.Core.List.{List}
use Prim.Native.Nat.{ℕ, ◌+◌, ◌*◌, ◌≤◌}
use native.Mathlib.Omega.{arith}
use lib.ListN.{length, get_or}
use Rattle.geometry.proofs.Widths.{one_row}
use Rattle.meter_memory.proofs.Lists.{lent, rows_start, rows_turn}
use Rattle.meter_memory.proofs.Tried.{stored_all}
use Rattle.meter_row.specs.Row.{added_in}
use Rattle.meter_row.proofs.Results.{refused_status, accepted_status}
use Rattle.meter_update.proofs.update_rows.Invariants.{none, storedIn, stored}
use Rattle.meter_update.proofs.update_rows.Goals as goal
use Rattle.meter_update.proofs.update_rows.Goals.{In-loop-r}

-- row r ends in the memory
row_end : (c : In-loop-r) → c.loop-r.r * c.stride-stride.result + c.stride-stride.result ≤ length c.loop-r.memory
row_end c =
    let i = one_row c.args.d c.args.w c.loop-r.r c.requires.fact_2 c.loop-r-test.true in
    rw c.stride-stride.ensures (omega (arith, i.2))

pub try_rows-t-requires : goal.try_rows-t-requires
try_rows-t-requires c = c.requires

pub returns-then-is_err : goal.returns-then-is_err
returns-then-is_err c = let t = c.try_rows-t in record { status_value = t.ensures.status_value; value_value = t.ensures.value_value; memory_after = rw (refused_status t.result.found.status (sym c.is_err.ensures.value ∙ c.if-is_err.true)) }

pub stride-stride-requires : goal.stride-stride-requires
stride-stride-requires c = c.requires.fact_2.0

pub loop-r-init : goal.loop-r-init
loop-r-init c = let a = c.args in
    (omega arith, rows_start (stored a.w a.slots.now c.try_rows-t.result.groups) c.stride-stride.result a.d a.memory.now, refl)

pub overflow_mul-a : goal.overflow_mul-a
overflow_mul-a c = omega (arith, row_end c)

pub overflow_add-e : goal.overflow_add-e
overflow_add-e c = omega (arith, row_end c)

pub slice_bounds-update_row-end : goal.slice_bounds-update_row-end
slice_bounds-update_row-end c = omega (arith, row_end c)

pub bounds-slots-r : goal.bounds-slots-r
bounds-slots-r c = omega (arith, c.requires.fact_2.1)

pub bounds-t-r : goal.bounds-t-r
bounds-t-r c = omega (arith, c.requires.fact_2.1)

pub update_row-requires : goal.update_row-requires
update_row-requires c = record { fact_1 = c.requires.fact_2.0; fact_2 = omega (arith, row_end (goal.at.update_row-requires c).In-loop-r, c.stride-stride.ensures); fact_3 = c.requires.fact_3 c.loop-r.r c.loop-r-test.true }

pub loop-r-preserved : goal.loop-r-preserved
loop-r-preserved c = let l = c.loop-r in
    let stride = c.stride-stride.result in
    let groups = c.try_rows-t.result.groups in
    let a = c.args in
    let back = c.update_row in
    let fit = row_end (goal.at.loop-r-preserved c).In-loop-r in
    let e = back.ensures ∙ ap (λ (row : List ℕ). stored a.w a.slots.now groups l.r row) (lent (l.r * stride) stride l.memory) in
    (omega arith, rows_turn (stored a.w a.slots.now groups) stride a.d l.r l.memory back.new.row (omega arith) fit (omega (arith, fit)) e ∙ l.invariant.1, omega arith)

pub returns : goal.returns
returns c = let l = c.loop-r in
    let stride = c.stride-stride in
    let t = c.try_rows-t in
    let a = c.args in record {
      status_value = t.ensures.status_value;
      value_value = t.ensures.value_value;
      memory_after = rw (accepted_status t.result.found.status (sym c.is_err.ensures.value ∙ c.if-is_err.false)) (stored_all (storedIn a.w a.slots.now) (λ (r : ℕ) (row : List ℕ). added_in a.w row (get_or a.slots.now r 0) a.amount) a.d a.w a.memory.now
          t.result.groups
          none
          t.ensures.added
          stride.result
          l.r
          l.memory
          stride.ensures
          (omega arith)
          l.invariant.1);
    }
