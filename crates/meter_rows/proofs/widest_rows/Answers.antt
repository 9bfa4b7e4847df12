use mathlib.Core.Path.{sym, ap, ◌∙◌}
use native.Mathlib.Omega.{arith}
use Rattle.answer.specs.Refusals.{status}
use Rattle.meter_memory.specs.Rows.{row_of}
use Rattle.meter_row.specs.Row.{row_status, row_level}
use Rattle.meter_row.specs.Row.{widest_status, widest_row}
use Rattle.geometry.proofs.Widths.{one_row}
use Rattle.meter_memory.proofs.Gather.{status_turn, status_end, level_turn, level_end, rows_start, levels_start}
use Rattle.meter_rows.proofs.widest_rows.Goals as goal

pub loop-r-init : goal.loop-r-init
unfolding status
loop-r-init c = let a = c.args in
    (omega arith, rows_start (row_status a.w) a.w a.d a.memory.now, levels_start (row_level a.w) a.w a.d a.memory.now)

pub row_at-requires : goal.row_at-requires
row_at-requires c = one_row _ _ _ c.requires c.loop-r-test.true

pub widest_row-c-requires : goal.widest_row-c-requires
widest_row-c-requires c = record { fact_1 = c.requires.0; fact_2 = c.row_at.ensures.result_len }

pub loop-r-preserved : goal.loop-r-preserved
unfolding row_of
loop-r-preserved c = let a = c.args in
    let l = c.loop-r in
    let row = c.row_at.ensures.result_value in
    let found = c.widest_row-c in (
      omega arith,
      rw c.first-status.ensures
          (status_turn (row_status a.w) a.w a.d l.r a.memory.now (status l.status) (status found.result.status) (omega arith) (found.ensures.status_value ∙ ap (widest_status a.w) row) ∙ l.invariant.1),
      omega (arith, level_turn (row_level a.w) a.w a.d l.r a.memory.now l.value found.result.value (omega arith) (found.ensures.value_value ∙ ap (widest_row a.w) row), l.invariant.2),
    )

pub returns : goal.returns
returns c = let a = c.args in
    let l = c.loop-r in record { status_value = sym (status_end (row_status a.w) a.w a.d l.r a.memory.now (status l.status) (omega arith)) ∙ l.invariant.1; value_value = sym (level_end (row_level a.w) a.w a.d l.r a.memory.now l.value (omega arith)) ∙ l.invariant.2 }
