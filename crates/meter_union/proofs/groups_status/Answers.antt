use Rattle.group.specs.declared.Group.{Group}
use Rattle.group.specs.Group.{united_groups}
use Rattle.meter_memory.specs.Pairs.{paired_at, pair_status}
use Rattle.meter_union.specs.Union.{united_status}
use Rattle.meter_runs.specs.Runs.{run_status}
use Rattle.meter_union.specs.Runs.{groups_status}
use Rattle.meter_memory.proofs.Lists.{status_turn, status_end}
use mathlib.Core.Path.{◌≡◌, refl, sym, ap, ap₂, ◌∙◌}
use Rattle.answer.proofs.Order.{earlier_none}
use Rattle.answer.proofs.Refusals.{no_status}
use Prim.Native.Nat.{ℕ, ◌+◌}
use native.Mathlib.Omega.{arith}
use Rattle.answer.specs.Order.{earlier}
use Rattle.answer.specs.Refusals.{status}
use Rattle.meter_union.proofs.groups_status.Goals as goal
use Rattle.meter_union.proofs.groups_status.Goals.{then-is_err, else-is_err}

pub loop-g-init : goal.loop-g-init
unfolding earlier status
loop-g-init c = let a = c.args in
    (omega arith, omega arith, refl, ap (λ (k : ℕ). groups_status a.w a.source.now a.row.now k a.first) (omega arith))

pub loop-g-preserved : goal.loop-g-preserved
unfolding run_status pair_status paired_at
loop-g-preserved c = let a = c.args in
    let l = c.loop-g in
    let s = status c.unite_status-s.result in
    let next : status c.if-is_err.status ≡ earlier (status l.status) s =
    elim c.if-is_err.branch [
      | then-is_err t ↦ ap status t.status-is ∙ t.first-status.ensures
      | else-is_err t ↦ ap status t.status-is ∙ sym (ap (earlier (status l.status)) (no_status _ (sym c.is_err.ensures.value ∙ t.if-is_err.false)) ∙ earlier_none (status l.status))
    ] in (
      omega arith,
      omega arith,
      refl,
      rw next
          (status_turn (united_status a.w a.source.now a.row.now) (a.first + a.n) l.g (status l.status) s (omega arith)
          (c.unite_status-s.ensures ∙ ap₂ (λ (x y : Group). (united_groups x y).status) c.load.ensures c.load-in-loop-g.ensures)
          ∙ l.invariant.3),
    )

pub returns : goal.returns
unfolding run_status
returns c = let a = c.args in
    let l = c.loop-g in
    sym (status_end (united_status a.w a.source.now a.row.now) (a.first + a.n) l.g (status l.status) (omega arith)) ∙ l.invariant.3
