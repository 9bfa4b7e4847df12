use mathlib.Core.Path.{◌≡◌, refl, sym, ap, ap₂, ◌∙◌}
use Prim.Native.Nat.{ℕ, ◌+◌, ◌-◌, ◌*◌, ◌≤◌}
use native.Mathlib.Omega.{arith}
use mathlib.Core.List.{List}
use lib.ListN.{length, take, drop}
use Rattle.meter_memory.specs.Pairs.{pairs_status, pair_row, row_status_by, row_paired_by}
use Rattle.meter_memory.specs.Rows.{map_rows}
use Rattle.signed_group.specs.Group.{combined}
use Rattle.meter_memory.specs.Rows.{row_of}
use Rattle.signed_row.specs.Row.{source_status, source_combined}
use Rattle.geometry.proofs.Widths.{one_row}
use Rattle.meter_memory.proofs.Lists.{lent, behind_kept, rows_start, rows_turn, rows_end}
use Rattle.meter_memory.proofs.Written.{row_none}
use Rattle.signed_rows.proofs.combine_rows.Goals as goal
use Rattle.signed_rows.proofs.combine_rows.Goals.{In-loop-r}

-- row r ends in the memory
row_end : (c : In-loop-r) → c.loop-r.r * c.stride-stride.result + c.stride-stride.result ≤ length c.loop-r.memory
row_end c =
    let i = one_row c.args.d c.args.w c.loop-r.r c.requires.rows_in_1 c.loop-r-test.true in
    rw c.stride-stride.ensures (omega (arith, i.2))

pub stride-stride-requires : goal.stride-stride-requires
stride-stride-requires c = c.requires.rows_in_1.0

pub loop-r-init : goal.loop-r-init
loop-r-init c = let a = c.args in
    (omega arith, rows_start (source_combined a.minus a.w a.source.now) c.stride-stride.result a.d a.memory.now, refl, refl)

pub overflow_mul-start : goal.overflow_mul-start
overflow_mul-start c = omega (arith, row_end c)

pub overflow_add-end : goal.overflow_add-end
overflow_add-end c = omega (arith, row_end c)

pub slice_bounds-combine_row-end : goal.slice_bounds-combine_row-end
slice_bounds-combine_row-end c = omega (arith, row_end c)

pub row_at-requires : goal.row_at-requires
row_at-requires c = let i = one_row c.args.d c.args.w c.loop-r.r c.requires.rows_in_1 c.loop-r-test.true in
    (i.0, i.1, omega (arith, i.2))

-- row r is not written yet
pub combine_row-requires : goal.combine_row-requires
unfolding row_of row_status_by
combine_row-requires c = let l = c.loop-r in
    let stride = c.stride-stride in
    let a = c.args in
    let row : take (l.r * stride.result + stride.result - l.r * stride.result) (drop (l.r * stride.result) l.memory) ≡ row_of a.w a.memory.now l.r =
    lent (l.r * stride.result) stride.result l.memory
    ∙ ap (take stride.result) l.invariant.3
    ∙ ap (λ (n : ℕ). take n (drop (l.r * n) a.memory.now)) stride.ensures in
    let taken = ap₂ (λ (source row : List ℕ). pairs_status (combined a.minus) a.w source row) c.row_at.ensures.result_value row
    ∙ row_none (source_status a.minus a.w a.source.now) a.d a.w a.memory.now c.requires.memory_value l.r c.loop-r-test.true in record { w_value_1 = c.requires.rows_in_1.0; w_value_2 = omega (arith, row_end (goal.at.combine_row-requires c).In-loop-r, stride.ensures); w_value_3 = c.row_at.ensures.result_len; row_value = taken }

pub loop-r-preserved : goal.loop-r-preserved
unfolding row_of row_paired_by
loop-r-preserved c = let a = c.args in
    let l = c.loop-r in
    let stride = c.stride-stride.result in
    let back = c.combine_row in
    let fit = row_end (goal.at.loop-r-preserved c).In-loop-r in
    let e = back.ensures ∙ ap₂ (λ (source row : List ℕ). pair_row (combined a.minus) a.w source row) c.row_at.ensures.result_value (lent (l.r * stride) stride l.memory) in (
      omega arith,
      rows_turn (source_combined a.minus a.w a.source.now) stride a.d l.r l.memory back.new.row (omega arith) fit (omega (arith, fit)) e ∙ l.invariant.1,
      omega arith,
      behind_kept l.r stride l.memory back.new.row fit (omega (arith, fit)) a.memory.now l.invariant.3,
    )

pub returns : goal.returns
returns c = let a = c.args in
    let l = c.loop-r in
    sym (rows_end (source_combined a.minus a.w a.source.now) c.stride-stride.result a.d l.r l.memory (omega arith))
    ∙ l.invariant.1
    ∙ ap (λ (s : ℕ). map_rows (source_combined a.minus a.w a.source.now) s a.d 0 a.memory.now) c.stride-stride.ensures
