use mathlib.Core.Path.{◌≡◌, sym, ap₂, ◌∙◌}
use mathlib.Core.Bool.{Bool, false, ◌||◌}
use native.Mathlib.Omega.{arith}
use lib.Bits.{or_add_and, and_le_l, and_le_r}
use Rattle.group_layout.specs.Layout.{layout}
use Rattle.group_layout.specs.Merged.{is_merged}
use Rattle.group_layout.proofs.Laws.{valid_in}
use Rattle.group_block.specs.Block.{cap}
use Rattle.signed_block.proofs.Counters.{sizes_in}
use Rattle.signed_slots.proofs.Unions.{stay}
use Rattle.signed_slots.proofs.Blocks.{sums_eight, over_eight}
use Rattle.signed_nodes.proofs.Nodes.{or_false}
use Rattle.signed_union.proofs.unite.Goals as goal

pub returns-then-b-eq0 : goal.returns-then-b-eq0
unfolding cap
returns-then-b-eq0 c = let a = c.args in
    let or = or_add_and a.merge a.other_merge in
    let none : a.merge ≡ 0 = omega (arith, and_le_r a.merge a.other_merge) in
    let none' : a.other_merge ≡ 0 = omega (arith, and_le_l a.merge a.other_merge) in
    rw (none, none', c.sums.ensures)
    (stay a.word a.other_word c.requires.fact_1.0.0 c.requires.fact_2.0.0 (sym c.over.ensures ∙ c.if-b-eq0.true))

pub unite-requires : goal.unite-requires
unite-requires c = let a = c.args in
    let p = c.requires in
    record {
      level_bound = omega arith;
      sane = p.fact_1.0;
      clean = p.fact_1.1;
      other_sane = p.fact_2.0;
      other_clean = p.fact_2.1;
      room = omega (arith, sizes_in 3 a.word a.merge (omega arith) p.fact_1.0.0, sizes_in 3 a.other_word a.other_merge (omega arith) p.fact_2.0.0);
    }

pub returns-then-is_merged : goal.returns-then-is_merged
returns-then-is_merged c = c.unite.ensures

pub united-requires : goal.united-requires
united-requires c = let a = c.args in
    let p = c.requires in
    let m : (is_merged (layout 3 a.merge) || is_merged (layout 3 a.other_merge)) ≡ false =
    ap₂ (λ (x y : Bool). x || y) (sym c.is_merged.ensures) (sym c.is_merged-2.ensures) ∙ c.if-is_merged.false in
    let off = or_false (is_merged (layout 3 a.merge)) (is_merged (layout 3 a.other_merge)) m in
    record {
      fact_1 = record {
        word_in = p.fact_1.0.0;
        other_in = p.fact_2.0.0;
        merge_in = valid_in 3 a.merge p.fact_1.0.1;
        other_merge_in = valid_in 3 a.other_merge p.fact_2.0.1;
        sums_are = c.sums.ensures ∙ sym (sums_eight a.word a.other_word);
        overs_are = c.over.ensures ∙ sym (over_eight a.word a.other_word);
      };
      fact_2 = off.0;
      fact_3 = off.1;
    }

pub returns : goal.returns
returns c = c.united.ensures
