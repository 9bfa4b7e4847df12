use mathlib.Core.Path.{◌≡◌, sym, ap₂}
use mathlib.Core.Bool.{Bool, ◌||◌}
use native.Mathlib.Omega.{arith}
use Rattle.group_layout.specs.Layout.{layout}
use Rattle.group_layout.specs.Merged.{is_merged}
use Rattle.signed_nodes.proofs.Integers.{raised_next}
use Rattle.signed_nodes.proofs.Nodes.{chosen_tells, raised_in}
use Rattle.signed_nodes.proofs.formed.Goals as goal

pub overflow_add-a : goal.overflow_add-a
overflow_add-a c = let n = c.args.level in
    let b = c.args in
    let p = raised_in n c.block_total-a.result b.word b.merge c.requires.fact_1 c.requires.fact_2 c.block_total-a.ensures in
    let q = raised_in n c.block_total-b.result b.other_word b.other_merge c.requires.fact_1 c.requires.fact_3 c.block_total-b.ensures in
    omega arith

pub returns : goal.returns
returns c = let sides = c.args.sides in
    let b = c.args in
    let n = c.args.level in
    let sum = raised_next n _ _ _ _ c.block_total-a.ensures c.block_total-b.ensures in
    let one : ((is_merged (layout n b.merge) || is_merged (layout n b.other_merge)) || sides.over) ≡ ((c.is_merged.result || c.is_merged-2.result) || sides.over) =
    ap₂ (λ (x y : Bool). (x || y) || sides.over) (sym c.is_merged.ensures) (sym c.is_merged-2.ensures) in
    record {
      first = c.block_total-a.ensures;
      second = c.block_total-b.ensures;
      union = rw (c.chosen.ensures, c.chosen-2.ensures)
          (chosen_tells n b.word b.merge b.other_word b.other_merge sides c.requires.fact_4 c.held-sum.result (rw sum at c.held-sum.ensures) _ one);
    }
