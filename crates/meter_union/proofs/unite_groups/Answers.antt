use mathlib.Core.Path.{refl, sym, ap, ◌∙◌}
use Prim.Native.Nat.{ℕ, ◌+◌, ◌-◌}
use native.Mathlib.Omega.{arith}
use Rattle.group.specs.declared.Group.{Group}
use Rattle.meter_union.specs.Union.{unite_groups}
use Rattle.meter_memory.specs.Rows.{with_group}
use Rattle.group.specs.Group.{united_groups}
use Rattle.meter_memory.proofs.Pairs.{pair_turn, pair_end}
use Rattle.meter_union.proofs.unite_groups.Goals as goal

pub loop-g-init : goal.loop-g-init
loop-g-init c = let a = c.args in
    (omega arith, omega arith, refl, ap (λ (k : ℕ). unite_groups a.w a.source.now k a.first a.row.now) (omega arith), refl)

pub loop-g-preserved : goal.loop-g-preserved
loop-g-preserved c = let a = c.args in
    let l = c.loop-g in
    let u = c.united_at-x.ensures in
    let end = a.first + a.n in (
      omega arith,
      omega arith,
      refl,
      rw c.store.ensures
          (ap (λ (x : Group). unite_groups a.w a.source.now (end - (l.g + 1)) (l.g + 1) (with_group a.w l.row l.g x)) u
          ∙ pair_turn united_groups a.w a.source.now l.row end l.g (omega arith)
          ∙ l.invariant.3),
      omega arith,
    )

pub returns : goal.returns
returns c = let a = c.args in
    let l = c.loop-g in
    sym (pair_end united_groups a.w a.source.now l.row (a.first + a.n) l.g (omega arith)) ∙ l.invariant.3
