use mathlib.Core.Path.{◌≡◌, refl, ap, ◌∙◌}
use mathlib.Core.List.{List}
use Prim.Native.Nat.{ℕ, ◌+◌, ◌-◌, ◌*◌, ◌/◌, ◌%◌}
use native.Mathlib.Omega.{arith}
use lib.ListN.{length}
use Rattle.geometry.proofs.Widths.{stride_is}
use Rattle.meter_memory.specs.Pairs.{pair_status, pair_groups, pair_row}
use Rattle.meter_memory.proofs.Pairs.{pair_run}
use Rattle.meter_memory.proofs.Written.{row_taken}
use Rattle.meter_runs.proofs.Runs.{taken_after}
use Rattle.signed_group.specs.Group.{combined}
use Rattle.signed_group.proofs.Outcomes.{combined_eight}
use Rattle.signed_row.proofs.combine_row.Goals as goal
use Rattle.signed_row.proofs.combine_row.Goals.{then-not-combine_side, else-not-combine_side}

pub loop-e-init : goal.loop-e-init
unfolding pair_row
loop-e-init c = let a = c.args in
    (omega arith, refl, ap (λ (n : ℕ). pair_groups (combined a.minus) a.w a.source.now n 0 a.row.now) (omega arith), refl, λ g p q. row_taken (combined a.minus) a.w a.source.now a.row.now c.requires.row_value g (omega arith))

pub combine_side-requires : goal.combine_side-requires
combine_side-requires c = let w = c.args.w in
    (omega arith, omega (arith, stride_is w), omega (arith, stride_is w))

pub combine_groups-requires : goal.combine_groups-requires
combine_groups-requires c = let l = c.loop-e in
    let a = c.args in
    let same : c.combine_side.new.row ≡ l.row = c.combine_side.ensures ∙ rw (c.if-not-combine_side.true) in record { fact_1 = (omega arith, omega (arith, stride_is a.w), omega (arith, stride_is a.w)); fact_2 = λ k p q. ap (λ (row : List ℕ). pair_status (combined a.minus) a.w a.source.now row k) same ∙ l.invariant.4 k p (omega arith) }

pub loop-e-preserved : goal.loop-e-preserved
loop-e-preserved c = let a = c.args in
    let l = c.loop-e in
    let side = c.combine_side in
    let next : c.if-not-combine_side.row ≡ pair_groups (combined a.minus) a.w a.source.now 8 (8 * l.e) l.row =
    elim c.if-not-combine_side.branch [
      | then-not-combine_side t ↦ t.row-is ∙ t.combine_groups.ensures ∙ ap (λ (row : List ℕ). pair_groups (combined a.minus) a.w a.source.now 8 (8 * l.e) row) (side.ensures ∙ rw t.if-not-combine_side.true)
      | else-not-combine_side t ↦ t.row-is ∙ side.ensures ∙ rw t.if-not-combine_side.false
    ] in
    let at : 8 * (l.e + 1) ≡ 8 * l.e + 8 = omega arith in (
      omega arith,
      refl,
      rw (next, at) (pair_run (combined a.minus) a.w a.source.now 8 l.row (a.w / 8) (8 * l.e) (omega arith) ∙ l.invariant.2),
      elim c.if-not-combine_side.branch [
        | then-not-combine_side t ↦ omega (arith, ap length t.row-is)
        | else-not-combine_side t ↦ omega (arith, ap length t.row-is)
      ],
      rw (next, at)
          (taken_after (combined a.minus) a.w a.source.now (combined_eight a.minus) 8 (a.w / 8) (8 * l.e) l.row (omega arith) (omega arith) (omega (arith, stride_is a.w)) l.invariant.4),
    )

pub combine_groups-requires-2 : goal.combine_groups-requires-2
combine_groups-requires-2 c = let w = c.args.w in record { fact_1 = (omega arith, omega (arith, stride_is w), omega (arith, stride_is w)); fact_2 = λ k p q. c.loop-e.invariant.4 k (omega arith) (omega arith) }

pub returns : goal.returns
returns c = let a = c.args in
    let l = c.loop-e in
    let first : a.w / 64 * 8 ≡ 8 * l.e = omega arith in
    let n : a.w / 8 % 8 ≡ a.w / 8 - 8 * l.e = omega arith in
    c.combine_groups-2.ensures ∙ rw (first, n) l.invariant.2
