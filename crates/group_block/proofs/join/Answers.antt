use Rattle.std.proofs.Common.{Ok}
use mathlib.Core.Path.{ap, ap₂, ◌∙◌}
use Prim.Native.Nat.{ℕ, ◌+◌}
use Rattle.group_layout.proofs.Laws.{valid_in}
use Rattle.group_block.specs.Sum.{held}
use Rattle.group_block.specs.Passed.{summed_as}
use Rattle.group_block.proofs.Halves.{join_left, join_right, join_both}
use Rattle.group_block.proofs.join.Goals as goal
use Rattle.group_block.proofs.join.Goals.{in_default-via-in-Ok+in_default, in_default-via-in_default}

pub returns-in_default : goal.returns-in_default
returns-in_default g c =
    let f = g.M.MeterKind in
    let d = g.met.M.MeterKind.laws in
    let a = c.args in
    let sum = ap f.means c.plus.ensures ∙ d.means_made _ ∙ ap₂ f.kind.plus c.sum_total.ensures c.sum_total-in_default.ensures in
    c.held.ensures
    ∙ ap (λ (v : f.kind.Value). summed_as f.kind f.made (held {K = f.kind} (a.half + 1) v)) sum
    ∙ elim c.in_default.branch [
      | in_default-via-in-Ok+in_default w ↦ let x = w.in_default in join_right d a.half a.left a.right _ _ x.is-0 x.is-1
      | in_default-via-in_default w ↦ join_left d a.half a.left a.right _ w.in_default.is-0
    ]

pub beside-requires-clause-fact_2 : goal.beside-requires-clause-fact_2
beside-requires-clause-fact_2 g c = valid_in c.args.half c.in-Ok-Ok.l.merge (rw c.in-Ok-Ok.is-0 at c.requires.fact_2).0.1

pub beside-requires-clause-fact_3 : goal.beside-requires-clause-fact_3
beside-requires-clause-fact_3 g c = valid_in c.args.half c.in-Ok-Ok.r.merge (rw c.in-Ok-Ok.is-1 at c.requires.fact_3).0.1

pub returns : goal.returns
returns g c =
    let d = g.met.M.MeterKind.laws in
    let a = c.args in
    let s = c.in-Ok-Ok in
    ap₂ (λ (w m : ℕ). Ok (record { word = w; merge = m })) c.beside_word.ensures c.beside.ensures
    ∙ rw (s.is-0, s.is-1) (join_both d a.half s.l s.r (rw s.is-0 at c.requires.fact_2) (rw s.is-1 at c.requires.fact_3))
