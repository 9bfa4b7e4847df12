use mathlib.Core.Path.{refl, sym, ap, ap₂, ◌∙◌}
use Prim.Native.Nat.{ℕ, ◌+◌, ◌*◌, ◌≤◌}
use native.Mathlib.Omega.{arith}
use mathlib.Core.List.{List}
use lib.ListN.{length}
use Rattle.meter_memory.specs.Pairs.{row_paired_by}
use Rattle.meter_memory.specs.Rows.{map_rows}
use Rattle.meter_union.specs.Union.{unite_row}
use Rattle.meter_memory.specs.Rows.{row_of}
use Rattle.meter_union.specs.Union.{source_added}
use Rattle.geometry.proofs.Widths.{one_row}
use Rattle.meter_memory.proofs.Lists.{lent, rows_start, rows_turn, rows_end}
use Rattle.meter_rows.proofs.unite_rows.Goals as goal
use Rattle.meter_rows.proofs.unite_rows.Goals.{In-loop-r}

-- row r ends in the memory
row_end : (c : In-loop-r) → c.loop-r.r * c.stride-stride.result + c.stride-stride.result ≤ length c.loop-r.memory
row_end c =
    let i = one_row c.args.d c.args.w c.loop-r.r c.requires.fact_1 c.loop-r-test.true in
    rw c.stride-stride.ensures (omega (arith, i.2))

pub stride-stride-requires : goal.stride-stride-requires
stride-stride-requires c = c.requires.fact_1.0

pub loop-r-init : goal.loop-r-init
loop-r-init c = let a = c.args in
    (omega arith, rows_start (source_added a.w a.source.now) c.stride-stride.result a.d a.memory.now, refl)

pub overflow_mul-start : goal.overflow_mul-start
overflow_mul-start c = omega (arith, row_end c)

pub overflow_add-end : goal.overflow_add-end
overflow_add-end c = omega (arith, row_end c)

pub slice_bounds-unite_row-end : goal.slice_bounds-unite_row-end
slice_bounds-unite_row-end c = omega (arith, row_end c)

pub row_at-requires : goal.row_at-requires
row_at-requires c = let i = one_row c.args.d c.args.w c.loop-r.r c.requires.fact_1 c.loop-r-test.true in
    (i.0, i.1, omega (arith, i.2))

pub unite_row-requires : goal.unite_row-requires
unite_row-requires c = record { fact_1 = c.requires.fact_1.0; fact_2 = omega (arith, row_end (goal.at.unite_row-requires c).In-loop-r, c.stride-stride.ensures); fact_3 = c.row_at.ensures.result_len }

pub loop-r-preserved : goal.loop-r-preserved
unfolding row_of row_paired_by
loop-r-preserved c = let a = c.args in
    let l = c.loop-r in
    let stride = c.stride-stride.result in
    let back = c.unite_row in
    let fit = row_end (goal.at.loop-r-preserved c).In-loop-r in
    let e = back.ensures ∙ ap₂ (λ (source row : List ℕ). unite_row a.w source row) c.row_at.ensures.result_value (lent (l.r * stride) stride l.memory) in
    (omega arith, rows_turn (source_added a.w a.source.now) stride a.d l.r l.memory back.new.row (omega arith) fit (omega (arith, fit)) e ∙ l.invariant.1, omega arith)

pub returns : goal.returns
returns c = let a = c.args in
    let l = c.loop-r in
    sym (rows_end (source_added a.w a.source.now) c.stride-stride.result a.d l.r l.memory (omega arith))
    ∙ l.invariant.1
    ∙ ap (λ (s : ℕ). map_rows (source_added a.w a.source.now) s a.d 0 a.memory.now) c.stride-stride.ensures
