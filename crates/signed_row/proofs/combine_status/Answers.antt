use mathlib.Core.Path.{◌≡◌, refl, sym, ap, ◌∙◌}
use Prim.Native.Nat.{ℕ, ◌+◌, ◌-◌, ◌*◌, ◌/◌, ◌%◌}
use native.Mathlib.Omega.{arith}
use Rattle.answer.specs.Order.{earlier}
use Rattle.answer.specs.Refusals.{status}
use Rattle.answer.proofs.Order.{earlier_none}
use Rattle.geometry.proofs.Widths.{stride_is}
use Rattle.meter_memory.specs.Pairs.{pairs_status}
use Rattle.meter_runs.specs.Runs.{run_status}
use Rattle.meter_runs.proofs.Runs.{status_next}
use Rattle.signed_group.specs.Group.{combined}
use Rattle.signed_row.proofs.combine_status.Goals as goal
use Rattle.signed_row.proofs.combine_status.Goals.{then-not-clean_eight, else-not-clean_eight}

pub loop-e-init : goal.loop-e-init
unfolding earlier pairs_status run_status status
loop-e-init c = let a = c.args in
    (omega arith, refl, ap (λ (n : ℕ). run_status (combined a.minus) a.w a.source.now a.row.now n 0) (omega arith))

pub clean_eight-requires : goal.clean_eight-requires
clean_eight-requires c = let w = c.args.w in
    (omega arith, omega (arith, stride_is w), omega (arith, stride_is w))

pub groups_status-requires : goal.groups_status-requires
groups_status-requires c = let w = c.args.w in
    (omega arith, omega (arith, stride_is w), omega (arith, stride_is w))

pub loop-e-preserved : goal.loop-e-preserved
loop-e-preserved c = let a = c.args in
    let l = c.loop-e in
    let x = run_status (combined a.minus) a.w a.source.now a.row.now 8 (8 * l.e) in
    let next : (status c.if-not-clean_eight.taken) ≡ earlier (status l.taken) x =
    elim c.if-not-clean_eight.branch [
      | then-not-clean_eight t ↦ ap status t.taken-is ∙ t.first-taken.ensures ∙ ap (earlier (status l.taken)) t.groups_status.ensures
      | else-not-clean_eight t ↦ ap status t.taken-is ∙ sym (ap (earlier (status l.taken)) (c.clean_eight.ensures t.if-not-clean_eight.false a.minus) ∙ earlier_none (status l.taken))
    ] in
    let at : 8 * (l.e + 1) ≡ 8 * l.e + 8 = omega arith in (
      omega arith,
      refl,
      rw (next, at) (status_next (combined a.minus) a.w a.source.now (a.w / 8) (8 * l.e) 8 a.row.now (status l.taken) x (omega arith) refl ∙ l.invariant.2),
    )

pub groups_status-requires-2 : goal.groups_status-requires-2
groups_status-requires-2 c = let w = c.args.w in
    (omega arith, omega (arith, stride_is w), omega (arith, stride_is w))

pub returns : goal.returns
returns c = let a = c.args in
    let l = c.loop-e in
    let first : a.w / 64 * 8 ≡ 8 * l.e = omega arith in
    let n : a.w / 8 % 8 ≡ a.w / 8 - 8 * l.e = omega arith in
    c.first.ensures ∙ ap (earlier (status l.taken)) c.groups_status-2.ensures ∙ rw (first, n) l.invariant.2
