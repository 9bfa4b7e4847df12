use mathlib.Core.Path.{sym, ap₂, ◌∙◌}
use Prim.Native.Nat.{ℕ}
use native.Mathlib.Omega.{arith}
use mathlib.Core.List.{List}
use Rattle.meter_memory.specs.Pairs.{row_status_by}
use Rattle.answer.specs.Refusals.{status}
use Rattle.meter_memory.specs.Rows.{row_of}
use Rattle.meter_union.specs.Union.{source_status}
use Rattle.meter_union.specs.Union.{unite_status}
use Rattle.geometry.proofs.Widths.{one_row}
use Rattle.meter_memory.proofs.Gather.{status_turn, status_end, rows_start}
use Rattle.meter_rows.proofs.unite_status.Goals as goal

pub loop-r-init : goal.loop-r-init
unfolding status
loop-r-init c = let a = c.args in
    (omega arith, rows_start (source_status a.w a.source.now) a.w a.d a.memory.now)

pub row_at-requires : goal.row_at-requires
row_at-requires c = one_row _ _ _ c.requires.fact_1 c.loop-r-test.true

pub row_at-requires-in-loop-r : goal.row_at-requires-in-loop-r
row_at-requires-in-loop-r c = let i = one_row c.args.d c.args.w _ c.requires.fact_1 c.loop-r-test.true in
    (i.0, i.1, omega (arith, i.2))

pub unite_status-next-requires : goal.unite_status-next-requires
unite_status-next-requires c = record { fact_1 = c.requires.fact_1.0; fact_2 = c.row_at.ensures.result_len; fact_3 = c.row_at-in-loop-r.ensures.result_len }

pub loop-r-preserved : goal.loop-r-preserved
unfolding row_of row_status_by
loop-r-preserved c = let a = c.args in
    let l = c.loop-r in
    let e = c.unite_status-next.ensures ∙ ap₂ (λ (source row : List ℕ). unite_status a.w source row) c.row_at-in-loop-r.ensures.result_value c.row_at.ensures.result_value in (
      omega arith,
      rw c.first-status.ensures
          (status_turn (source_status a.w a.source.now) a.w a.d l.r a.memory.now (status l.status) (status c.unite_status-next.result) (omega arith) e ∙ l.invariant.1),
    )

pub returns : goal.returns
returns c = let a = c.args in
    let l = c.loop-r in
    sym (status_end (source_status a.w a.source.now) a.w a.d l.r a.memory.now (status l.status) (omega arith)) ∙ l.invariant.1
