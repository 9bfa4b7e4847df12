use mathlib.Core.Path.{◌≡◌, refl, sym, ap, ◌∙◌}
use Prim.Native.Nat.{ℕ, ◌+◌, ◌-◌, ◌*◌, ◌/◌, ◌%◌, ◌≤◌, ◌<◌}
use native.Mathlib.Omega.{arith}
use Rattle.answer.specs.Order.{earlier}
use Rattle.answer.specs.Refusals.{status}
use Rattle.answer.proofs.Order.{earlier_none}
use Rattle.group.specs.Group.{united_groups}
use Rattle.geometry.proofs.Widths.{stride_is}
use Rattle.meter_memory.specs.Pairs.{pairs_status}
use Rattle.meter_union.specs.Runs.{groups_status}
use Rattle.meter_union.specs.Union.{unite_status}
use Rattle.meter_runs.specs.Runs.{run_status}
use Rattle.meter_runs.proofs.Runs.{status_next}
use Rattle.meter_union.proofs.Runs.{united_status_lem, passed_over}
use Rattle.meter_union.proofs.unite_status.Goals as goal
use Rattle.meter_union.proofs.unite_status.Goals.{In-Some, In_default}

-- the next eight groups, some of which is merged
next : (c : In-Some) → (c.in-Some.e < c.args.w / 64) × (c.loop-e.from ≤ c.in-Some.e)
    × (groups_status c.args.w c.args.source.now c.args.row.now (c.args.w / 8 - 8 * c.in-Some.e) (8 * c.in-Some.e)
    ≡ groups_status c.args.w c.args.source.now c.args.row.now (c.args.w / 8 - 8 * c.loop-e.from) (8 * c.loop-e.from))
next c =
    let a = c.args in
    let s = c.in-Some.ensures.some in
    let p = passed_over a.w a.row.now a.source.now (omega (arith, stride_is a.w)) (omega (arith, stride_is a.w)) (λ i. (c.type_inv.row i).fits) (λ i. (c.type_inv.source i).fits) c.loop-e.from c.in-Some.e c.loop-e.invariant.0 s.1 in
    (s.0, p.0, p.1)

-- the groups after the eights
rest : (c : In_default)
    → earlier (status c.loop-e.status) (groups_status c.args.w c.args.source.now c.args.row.now (c.args.w / 8 % 8) (c.args.w / 64 * 8)) ≡ unite_status c.args.w c.args.source.now c.args.row.now
rest c =
    let a = c.args in
    let p = passed_over a.w a.row.now a.source.now (omega (arith, stride_is a.w)) (omega (arith, stride_is a.w)) (λ i. (c.type_inv.row i).fits) (λ i. (c.type_inv.source i).fits) c.loop-e.from (a.w / 64) c.loop-e.invariant.0 (c.in_default.ensures.none refl) in
    let first : a.w / 64 * 8 ≡ 8 * (a.w / 64) = omega arith in
    let n : a.w / 8 % 8 ≡ a.w / 8 - 8 * (a.w / 64) = omega arith in
    rw (first, n, p.1) c.loop-e.invariant.1

pub loop-e-init : goal.loop-e-init
unfolding earlier status pairs_status run_status
loop-e-init c = let a = c.args in
    (omega arith, ap (λ (n : ℕ). groups_status a.w a.source.now a.row.now n 0) (omega arith))

pub groups_status-requires : goal.groups_status-requires
groups_status-requires c = let w = c.args.w in
    let p = next (goal.at.groups_status-requires c).In-Some in
    (omega arith, omega (arith, stride_is w), omega (arith, stride_is w))

pub loop-e-smaller : goal.loop-e-smaller
loop-e-smaller c = let p = next (goal.at.loop-e-smaller c).In-Some in omega arith

pub loop-e-preserved : goal.loop-e-preserved
loop-e-preserved c = let a = c.args in
    let e = c.in-Some.e in
    let p = next (goal.at.loop-e-preserved c).In-Some in
    let at : 8 * (e + 1) ≡ 8 * e + 8 = omega arith in (
      omega arith,
      rw (c.first-status.ensures, at)
          (status_next united_groups a.w a.source.now (a.w / 8) (8 * e) 8 a.row.now (status c.loop-e.status) (status c.groups_status.result) (omega arith) c.groups_status.ensures
          ∙ rw p.2 c.loop-e.invariant.1),
    )

pub none_merged-requires : goal.none_merged-requires
none_merged-requires c = let w = c.args.w in
    (omega arith, omega (arith, stride_is w), omega (arith, stride_is w))

pub returns-then-none_merged : goal.returns-then-none_merged
returns-then-none_merged c = let a = c.args in
    let none = united_status_lem a.w (a.w / 8 % 8) (a.w / 64 * 8) a.row.now a.source.now (omega arith) (omega (arith, stride_is a.w)) (omega (arith, stride_is a.w))
    (λ i. (c.type_inv.row i).fits) (λ i. (c.type_inv.source i).fits) (sym c.none_merged.ensures ∙ c.if-none_merged.true) in
    sym (earlier_none (status c.loop-e.status)) ∙ rw none at (rest (goal.at.returns-then-none_merged c).In_default)

pub groups_status-requires-2 : goal.groups_status-requires-2
groups_status-requires-2 c = let w = c.args.w in
    (omega arith, omega (arith, stride_is w), omega (arith, stride_is w))

pub returns : goal.returns
returns c =
    c.first.ensures ∙ ap (earlier (status c.loop-e.status)) c.groups_status-2.ensures ∙ rest (goal.at.returns c).In_default
