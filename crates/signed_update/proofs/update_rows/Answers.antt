use mathlib.Core.Path.{refl, ap, ◌∙◌}
use mathlib.Core.List.{List}
use Prim.Native.Nat.{ℕ, ◌+◌, ◌*◌, ◌≤◌}
use native.Mathlib.Omega.{arith}
use borrow.Author.Tests.{ne_eqb}
use Rattle.std.proofs.lemmas.Result.{err_from_is_err_and}
use Rattle.answer.specs.Refusals.{number, status}
use Rattle.answer.proofs.Refusals.{positive}
use lib.ListN.{length, get_or}
use Rattle.geometry.proofs.Widths.{one_row}
use Rattle.meter_memory.proofs.Lists.{lent, rows_start, rows_turn}
use Rattle.meter_memory.proofs.Tried.{stored_all}
use Rattle.signed_number.specs.Number.{integer}
use Rattle.signed_row.specs.Hashes.{added_by}
use Rattle.signed_update.proofs.update_rows.Invariants.{none, storedIn, stored}
use Rattle.signed_update.proofs.update_rows.Goals as goal
use Rattle.signed_update.proofs.update_rows.Goals.{In-loop-r}

-- row r ends in the memory
row_end : (c : In-loop-r) → c.loop-r.r * c.stride-stride.result + c.stride-stride.result ≤ length c.loop-r.memory
row_end c =
    let i = one_row c.args.d c.args.w c.loop-r.r c.requires.fact_1 c.loop-r-test.true in
    rw c.stride-stride.ensures (omega (arith, i.2))

pub try_rows-requires : goal.try_rows-requires
try_rows-requires c = c.requires

pub returns-in_err-groups : goal.returns-in_err-groups
unfolding status
returns-in_err-groups c = let x = c.in_err-groups.field-0.0 in
    let p = err_from_is_err_and c.from_residual.result c.from_residual.ensures.1 in
    rw (p.1, p.2) (record { value = c.in_err-groups.ensures.status_value; memory_after = rw (ne_eqb (number x) 0 (λ z. absurd (omega (arith, positive x)))) })

pub stride-stride-requires : goal.stride-stride-requires
stride-stride-requires c = c.requires.fact_1.0

pub loop-r-init : goal.loop-r-init
loop-r-init c = let a = c.args in
    (omega arith, rows_start (stored a.w a.hashes.now c.in_ok-groups.groups) c.stride-stride.result a.d a.memory.now, refl)

pub overflow_mul-a : goal.overflow_mul-a
overflow_mul-a c = omega (arith, row_end c)

pub overflow_add-e : goal.overflow_add-e
overflow_add-e c = omega (arith, row_end c)

pub slice_bounds-store_at-end : goal.slice_bounds-store_at-end
slice_bounds-store_at-end c = omega (arith, row_end c)

pub bounds-hashes-r : goal.bounds-hashes-r
bounds-hashes-r c = omega (arith, c.requires.fact_1.1)

pub bounds-groups-r : goal.bounds-groups-r
bounds-groups-r c = omega (arith, c.requires.fact_1.1)

pub store_at-requires : goal.store_at-requires
store_at-requires c = record { fact_1 = c.requires.fact_1.0; fact_2 = omega (arith, row_end (goal.at.store_at-requires c).In-loop-r, c.stride-stride.ensures); fact_3 = c.requires.fact_2 c.loop-r.r c.loop-r-test.true }

pub loop-r-preserved : goal.loop-r-preserved
loop-r-preserved c = let l = c.loop-r in
    let stride = c.stride-stride.result in
    let groups = c.in_ok-groups.groups in
    let a = c.args in
    let back = c.store_at in
    let fit = row_end (goal.at.loop-r-preserved c).In-loop-r in
    let e = back.ensures ∙ ap (λ (row : List ℕ). stored a.w a.hashes.now groups l.r row) (lent (l.r * stride) stride l.memory) in
    (omega arith, rows_turn (stored a.w a.hashes.now groups) stride a.d l.r l.memory back.new.row (omega arith) fit (omega (arith, fit)) e ∙ l.invariant.1, omega arith)

pub returns : goal.returns
unfolding status
returns c = let l = c.loop-r in
    let stride = c.stride-stride in
    let t = c.in_ok-groups in
    let a = c.args in record {
      value = t.ensures.status_value;
      memory_after = stored_all (storedIn a.w a.hashes.now) (λ (r : ℕ) (row : List ℕ). added_by a.w (get_or a.hashes.now r 0) (integer a.minus a.magnitude) row) a.d a.w a.memory.now
          t.groups
          none
          t.ensures.added
          stride.result
          l.r
          l.memory
          stride.ensures
          (omega arith)
          l.invariant.1;
    }
