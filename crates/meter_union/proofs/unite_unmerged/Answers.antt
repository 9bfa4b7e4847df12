use mathlib.Core.Path.{◌≡◌, refl, sym, ap, ◌∙◌}
use Prim.Native.Nat.{ℕ, ◌+◌}
use native.Mathlib.Omega.{arith}
use Rattle.group.specs.declared.Group.{Group}
use Rattle.group.specs.Results.{Outcome}
use Rattle.meter_memory.specs.Rows.{with_group}
use Rattle.meter_union.specs.Union.{united_at, unite_groups}
use Rattle.meter_runs.proofs.Runs.{row_none, source_none, paired_none}
use Rattle.group.specs.Group.{united_groups}
use Rattle.group.proofs.Outcomes.{united_eight}
use Rattle.meter_memory.proofs.Pairs.{pair_turn, pair_end, merge_kept}
use Rattle.meter_union.proofs.unite_unmerged.Goals as goal

pub loop-g-init : goal.loop-g-init
loop-g-init c = let a = c.args in (
  omega arith,
  omega arith,
  refl,
  ap (λ (k : ℕ). unite_groups a.w a.source.now k a.first a.row.now) (omega arith),
  refl,
  row_none a.w 8 a.first a.row.now a.source.now c.requires.fact_2,
)

pub loop-g-preserved : goal.loop-g-preserved
loop-g-preserved c = let a = c.args in
    let l = c.loop-g in
    let z = source_none a.w 8 a.first a.row.now a.source.now c.requires.fact_2 in
    let none = paired_none united_groups a.w a.source.now l.g l.row (l.invariant.5 l.g (omega arith) (omega arith)) (z l.g (omega arith) (omega arith)) in
    let u : c.unite_unmerged-x.result ≡ (united_at a.w a.source.now l.row l.g).group =
    c.unite_unmerged-x.ensures
    ∙ rw (c.eight.ensures, c.eight-in-loop-g.ensures) (ap (λ (o : Outcome). o.group) none) in
    let stored = c.store.ensures ∙ ap (λ (g : Group). with_group a.w l.row l.g g) u in
    let end = a.first + 8 in (
      omega arith,
      omega arith,
      refl,
      rw stored (pair_turn united_groups a.w a.source.now l.row end l.g (omega arith) ∙ l.invariant.3),
      omega arith,
      λ k h e. rw stored (merge_kept united_groups a.w a.source.now united_eight l.row l.g (omega arith) (omega arith) k (omega arith) (λ q. omega arith) ∙ l.invariant.5 k (omega arith) (omega arith)),
    )

pub returns : goal.returns
returns c = let a = c.args in
    let l = c.loop-g in
    sym (pair_end united_groups a.w a.source.now l.row (a.first + 8) l.g (omega arith)) ∙ l.invariant.3
