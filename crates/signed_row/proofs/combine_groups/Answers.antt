use mathlib.Core.Path.{◌≡◌, refl, sym, ap, ap₂, ◌∙◌}
use Prim.Native.Nat.{ℕ, ◌+◌}
use native.Mathlib.Omega.{arith}
use Rattle.group.specs.declared.Group.{Group}
use Rattle.meter_memory.specs.Rows.{with_group}
use Rattle.meter_memory.specs.Pairs.{paired_at, pair_status, pair_groups}
use Rattle.meter_memory.proofs.Pairs.{pair-run, pair_end}
use Rattle.meter_runs.proofs.Runs.{taken-after}
use Rattle.signed_group.specs.Group.{combined}
use Rattle.signed_group.proofs.Outcomes.{combined-clean, combined-eight}
use Rattle.signed_row.proofs.combine_groups.Goals as goal

pub loop-g-init : goal.loop-g-init
loop-g-init c = let a = c.args in
    (omega arith, omega arith, refl, ap (λ (k : ℕ). pair_groups (combined a.minus) a.w a.source.now k a.first a.row.now) (omega arith), refl, λ k p q. c.requires.fact_2 k p (omega arith))

pub combine_clean-x-requires : goal.combine_clean-x-requires
unfolding pair_status paired_at
combine_clean-x-requires c = let l = c.loop-g in
    rw (c.load.ensures, c.load-in-loop-g.ensures) (combined-clean c.args.minus _ _ (l.invariant.5 l.g (omega arith) (omega arith)))

pub loop-g-preserved : goal.loop-g-preserved
unfolding paired_at pair_groups
loop-g-preserved c = let a = c.args in
    let l = c.loop-g in
    let end = a.first + a.n in
    let next : c.store.new.row ≡ pair_groups (combined a.minus) a.w a.source.now 1 l.g l.row =
    c.store.ensures
    ∙ ap (with_group a.w l.row l.g)
    (c.combine_clean-x.ensures ∙ ap₂ (λ (x y : Group). (combined a.minus x y).group) c.load.ensures c.load-in-loop-g.ensures) in (
      omega arith,
      omega arith,
      refl,
      rw next (pair-run (combined a.minus) a.w a.source.now 1 l.row end l.g (omega arith) ∙ l.invariant.3),
      omega arith,
      rw next (taken-after (combined a.minus) a.w a.source.now (combined-eight a.minus) 1 end l.g l.row (omega arith) (omega arith) (omega arith) l.invariant.5),
    )

pub returns : goal.returns
returns c = let a = c.args in
    let l = c.loop-g in
    sym (pair_end (combined a.minus) a.w a.source.now l.row (a.first + a.n) l.g (omega arith)) ∙ l.invariant.3
