use mathlib.Core.Path.{◌≡◌, refl, sym, ap, ap₂, ◌∙◌}
use Prim.Native.Nat.{ℕ, ◌+◌}
use native.Mathlib.Omega.{arith}
use Rattle.answer.specs.Order.{earlier}
use Rattle.answer.specs.Refusals.{status}
use Rattle.answer.specs.declared.Refusal.{Refusal}
use Rattle.std.specs.Prelude.{Result, Ok, Err, is_err, ⊤}
use mathlib.Core.Bool.{false, true≢false}
use Rattle.answer.proofs.Order.{earlier_none}
use Rattle.group.specs.declared.Group.{Group}
use Rattle.meter_memory.specs.Pairs.{paired_at, pair_status}
use Rattle.meter_memory.proofs.Lists.{status_turn, status_end}
use Rattle.meter_runs.specs.Runs.{run_status}
use Rattle.signed_group.specs.Group.{combined}
use Rattle.signed_row.proofs.groups_status.Goals as goal
use Rattle.signed_row.proofs.groups_status.Goals.{then-is_err, else-is_err}

none_of : (r : Result ⊤ Refusal) → is_err r ≡ false → status r ≡ 0
unfolding status
none_of (Ok v) e = refl
none_of (Err x) e = absurd (true≢false e)

pub loop-g-init : goal.loop-g-init
unfolding earlier status
loop-g-init c = let a = c.args in
    (omega arith, omega arith, refl, ap (λ (k : ℕ). run_status (combined a.minus) a.w a.source.now a.row.now k a.start) (omega arith))

pub loop-g-preserved : goal.loop-g-preserved
unfolding run_status pair_status paired_at
loop-g-preserved c = let a = c.args in
    let l = c.loop-g in
    let s = status c.combine_status-next.result in
    let next : status c.if-is_err.taken ≡ earlier (status l.taken) s =
    elim c.if-is_err.branch [
      | then-is_err t ↦ ap status t.taken-is ∙ t.first-taken.ensures
      | else-is_err t ↦ ap status t.taken-is ∙ sym (ap (earlier (status l.taken)) (none_of _ (sym c.is_err.ensures.value ∙ t.if-is_err.false)) ∙ earlier_none (status l.taken))
    ] in (
      omega arith,
      omega arith,
      refl,
      rw next
          (status_turn (pair_status (combined a.minus) a.w a.source.now a.row.now) (a.start + a.n) l.g (status l.taken) s (omega arith)
          (c.combine_status-next.ensures ∙ ap₂ (λ (x y : Group). (combined a.minus x y).status) c.load.ensures c.load-in-loop-g.ensures)
          ∙ l.invariant.3),
    )

pub returns : goal.returns
unfolding run_status
returns c = let a = c.args in
    let l = c.loop-g in
    sym (status_end (pair_status (combined a.minus) a.w a.source.now a.row.now) (a.start + a.n) l.g (status l.taken) (omega arith)) ∙ l.invariant.3
