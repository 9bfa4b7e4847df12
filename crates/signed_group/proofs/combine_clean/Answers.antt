use mathlib.Core.Path.{◌≡◌, sym, ap, ◌∙◌}
use mathlib.Core.Bool.{true}
use Prim.Native.Nat.{ℕ, ◌<◌}
use native.Mathlib.Omega.{arith}
use Rattle.group_layout.specs.Layout.{layout}
use Rattle.group_block.specs.Block.{BlockOf, cap, all_clean}
use Rattle.group_block.specs.Sum.{unite}
use Rattle.signed_block.specs.Signed.{signed, times_block}
use Rattle.signed_block.specs.Passed.{signed_summed, signed_block}
use Rattle.signed_words.proofs.Totals.{turned_clean, turned_block}
use Rattle.signed_group.specs.Group.{decode}
use Rattle.signed_group.proofs.Laws.{Clean, pair_clean, combined_settled}
use Rattle.signed_group.proofs.Results.{left_of}
use Rattle.signed_group.proofs.combine_clean.Goals as goal
use Rattle.signed_group.proofs.combine_clean.Goals.{After-number_of}

-- both groups are refused by no line, and the numbers are those of their count bytes
module _ (n : After-number_of) where
  clean : Clean n.args.target × Clean n.args.source
  clean = pair_clean n.args.target n.args.source n.requires

  target_clean : all_clean signed (layout 3 n.args.target.merge) n.number_of-word.result ≡ true
  target_clean = ap (all_clean signed (layout 3 n.args.target.merge)) n.number_of-word.ensures ∙ clean.0.counters

  source_clean : all_clean signed (layout 3 n.args.source.merge) n.number_of.result ≡ true
  source_clean = ap (all_clean signed (layout 3 n.args.source.merge)) n.number_of.ensures ∙ clean.1.counters

  source_in : n.number_of.result < cap 3
  unfolding cap
  source_in = omega arith

pub times_sign-source_word-requires : goal.times_sign-source_word-requires
times_sign-source_word-requires c = record { fact_1 = (clean c).1.merges; fact_2 = source_clean c }

pub unite-united-requires : goal.unite-united-requires
unfolding cap
unite-united-requires c = let a = c.args in record { fact_1 = ((omega arith, (clean (goal.at.unite-united-requires c).After-number_of).0.merges), target_clean (goal.at.unite-united-requires c).After-number_of); fact_2 = ((omega arith, (clean (goal.at.unite-united-requires c).After-number_of).1.merges), rw c.times_sign-source_word.ensures (turned_clean _ c.number_of.result a.source.merge (source_in (goal.at.unite-united-requires c).After-number_of) (clean (goal.at.unite-united-requires c).After-number_of).1.merges)) }

pub returns : goal.returns
unfolding decode
returns c = let a = c.args in
    let source : signed_block 3 c.times_sign-source_word.result a.source.merge ≡ times_block a.minus (decode a.source) =
    ap (λ (w : ℕ). signed_block 3 w a.source.merge) c.times_sign-source_word.ensures
    ∙ turned_block a.minus c.number_of.result a.source.merge (source_in (goal.at.returns c).After-number_of) (clean (goal.at.returns c).After-number_of).1.merges
    ∙ ap (λ (w : ℕ). times_block a.minus (signed_block 3 w a.source.merge)) c.number_of.ensures in
    let o = c.outcome.ensures a.target (unite (decode a.target) (times_block a.minus (decode a.source)))
    (c.unite-united.ensures ∙ ap (λ (y : BlockOf signed 3). signed_summed (unite (signed_block 3 c.number_of-word.result a.target.merge) y)) source
    ∙ ap (λ (w : ℕ). signed_summed (unite (signed_block 3 w a.target.merge) (times_block a.minus (decode a.source)))) c.number_of-word.ensures) in
    c.unwrap_or.ensures ∙ left_of a.target c.outcome.result _ (o ∙ sym (combined_settled a.minus a.target a.source c.requires))
