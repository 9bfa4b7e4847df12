use mathlib.Core.Path.{◌≡◌, sym, ap, ap₂, ◌∙◌}
use Prim.Native.Nat.{◌+◌, ◌-◌, ℕ, ◌<◌}
use mathlib.Core.Bool.{false, ◌&&◌}
use lib.Dec.{eqb}
use Rattle.group_layout.specs.Layout.{layout}
use Rattle.group_layout.specs.Merged.{is_merged}
use Rattle.group_layout.proofs.Laws.{above_slot}
use Rattle.group_block.specs.Block.{cap, block, total as total_of}
use Rattle.group_block.specs.Sum.{fits, unite as unite-of, held as held_of}
use Rattle.group_block.specs.Passed.{summed}
use Rattle.group_block.proofs.Laws.{cap_mono, block_merged, all_clean_lem}
use Rattle.group_union.specs.Passed.{keeps}
use Rattle.group_union.proofs.Carries.{kept}
use Rattle.group_block.proofs.Halves.{block_summed, Apart}
use Rattle.group_block.specs.Figure.{ordinary_coded}
use Rattle.group_block.proofs.Uniting.{unite_counter, both_join, both_sum}
use Rattle.group_union.proofs.Steps.{halves_room, lefts_asked, rights_asked}
use Rattle.group_union.proofs.Pairs.{pair, pair_total, pairs_unite}
use native.Mathlib.Omega.{arith}
use Rattle.group_union.proofs.+unite.Goals as goal
use Rattle.group_union.proofs.+unite.Goals.{After-pair_sum-then-other_merge-pair, After-right_half-other_right, Else-is_merged-2, Then-may_add}

-- both blocks are two halves
module _ {t : ℕ} (c : Else-is_merged-2 t) where
  is_apart : let a = c.args in is_merged (layout a.level a.merge) ≡ false
  is_apart = sym c.is_merged.ensures ∙ c.if-is_merged.false

  other_apart : let a = c.args in is_merged (layout a.level a.other_merge) ≡ false
  other_apart = sym c.is_merged-2.ensures ∙ c.if-is_merged-2.false

  above : 0 < c.args.level
  above = above_slot _ _ is_apart

module _ {t : ℕ} (c : After-right_half-other_right t) where
  here : let a = c.args in
      Apart a.level a.word a.merge c.left_half-left.result c.right_half-right.result
  here =
      record {
        apart = is_apart (goal.at.After-right_half-other_right t c).Else-is_merged-2;
        l_is = c.left_half-left.ensures;
        r_is = c.right_half-right.ensures;
      }

  other : let a = c.args in
      Apart a.level a.other_word a.other_merge c.left_half-other_left.result c.right_half-other_right.result
  other = record { apart = other_apart (goal.at.After-right_half-other_right t c).Else-is_merged-2; l_is = c.left_half-other_left.ensures; r_is = c.right_half-other_right.ensures }

-- both blocks are two counters, and one of them does not hold its sum
module _ {t : ℕ} (c : After-pair_sum-then-other_merge-pair t) where
  positive : 0 < c.args.level
  positive = above (goal.at.After-pair_sum-then-other_merge-pair t c).Else-is_merged-2

  is_pair : c.args.merge ≡ pair (c.args.level - 1)
  is_pair = c.if-merge-pair.true ∙ c.pair_bits-pair.ensures

  other_pair : c.args.other_merge ≡ pair (c.args.level - 1)
  other_pair = c.if-other_merge-pair.true ∙ c.pair_bits-pair.ensures

  sum_is : c.pair_sum.result ≡ let a = c.args in total_of (block a.level a.word a.merge)
  sum_is = c.pair_sum.ensures ∙ pair_total _ _ _ positive is_pair

  other_sum : c.pair_sum-then-other_merge-pair.result ≡ let a = c.args in total_of (block a.level a.other_word a.other_merge)
  other_sum = c.pair_sum-then-other_merge-pair.ensures ∙ pair_total _ _ _ positive other_pair

  not_kept : let a = c.args in
      (eqb a.merge a.other_merge && keeps a.merge (unite-of (block a.level a.word a.merge) (block a.level a.other_word a.other_merge))) ≡ false
  not_kept =
      let p = c.requires in
      sym (c.may_add.ensures c.args.level p.0 p.1.0 p.1.1.0.0) ∙ c.if-may_add.false

-- the blocks are added as they are
added : {t : ℕ} (c : Then-may_add t) → let a = c.args in
    (a.word + a.other_word < cap a.level)
    × (unite-of (block a.level a.word a.merge) (block a.level a.other_word a.other_merge) ≡ fits (block a.level (a.word + a.other_word) a.merge))
added c =
    let a = c.args in
    kept a.level a.word a.merge a.other_word a.other_merge c.requires.1.0 c.requires.1.1.0.0
    (sym (c.may_add.ensures a.level c.requires.0 c.requires.1.0 c.requires.1.1.0.0) ∙ c.if-may_add.true)

pub may_add-requires : goal.may_add-requires
may_add-requires t c = tt

pub overflow_add-result : goal.overflow_add-result
unfolding cap
overflow_add-result t c = omega (arith, cap_mono c.args.level 3 c.requires.0, (added c).0)

pub returns-then-may_add : goal.returns-then-may_add
returns-then-may_add t c = let a = c.args in
    block_summed ordinary_coded a.level (record { word = a.word + a.other_word; merge = a.merge }) ((added c).0, c.requires.1.0.1)
    (all_clean_lem (layout a.level a.merge) (a.word + a.other_word))
    ∙ sym (ap summed (added c).1)

pub overflow_add-word : goal.overflow_add-word
unfolding total_of
overflow_add-word t c = let a = c.args in
    record { fits = rw c.block_total.ensures (rw (block_merged a.level a.word a.merge (sym c.is_merged.ensures ∙ c.if-is_merged.true)) at c.requires.1.1.1) }

pub returns-then-is_merged : goal.returns-then-is_merged
unfolding unite-of
returns-then-is_merged t c = let a = c.args in
    rw (block_merged a.level a.word a.merge (sym c.is_merged.ensures ∙ c.if-is_merged.true))
    (c.held.ensures ∙ ap (λ (y : ℕ). summed (held_of a.level (a.word + y))) c.block_total.ensures)

pub overflow_add-block_total : goal.overflow_add-block_total
unfolding total_of
overflow_add-block_total t c = let a = c.args in
    record { fits = rw c.block_total-then-is_merged-2.ensures (rw (block_merged a.level a.other_word a.other_merge (sym c.is_merged-2.ensures ∙ c.if-is_merged-2.true)) at c.requires.1.1.1) }

pub returns-then-is_merged-2 : goal.returns-then-is_merged-2
returns-then-is_merged-2 t c = let a = c.args in
    rw (
      block_merged a.level a.other_word a.other_merge (sym c.is_merged-2.ensures ∙ c.if-is_merged-2.true),
      unite_counter (block a.level a.word a.merge) a.other_word,
    )
    (c.held-then-is_merged-2.ensures ∙ ap (λ (x : ℕ). summed (held_of a.level (x + a.other_word))) c.block_total-then-is_merged-2.ensures)

pub overflow_sub-half : goal.overflow_sub-half
overflow_sub-half t c = omega (arith, above c)

pub overflow_add-pair_sum : goal.overflow_add-pair_sum
overflow_add-pair_sum t c = omega (arith, sum_is c, other_sum c, c.requires.1.1.1)

pub returns-then-other_merge-pair : goal.returns-then-other_merge-pair
returns-then-other_merge-pair t c = let a = c.args in
    c.held-then-other_merge-pair.ensures
    ∙ ap₂ (λ (x y : ℕ). summed (held_of a.level (x + y))) (sum_is (goal.at.returns-then-other_merge-pair t c).After-pair_sum-then-other_merge-pair) (other_sum (goal.at.returns-then-other_merge-pair t c).After-pair_sum-then-other_merge-pair)
    ∙ sym (ap summed (pairs_unite _ _ _ _ _ (positive (goal.at.returns-then-other_merge-pair t c).After-pair_sum-then-other_merge-pair) (is_pair (goal.at.returns-then-other_merge-pair t c).After-pair_sum-then-other_merge-pair) (other_pair (goal.at.returns-then-other_merge-pair t c).After-pair_sum-then-other_merge-pair) (not_kept (goal.at.returns-then-other_merge-pair t c).After-pair_sum-then-other_merge-pair)))

pub unite-united-requires : goal.unite-united-requires
unite-united-requires t c = (omega (arith, above (goal.at.unite-united-requires t c).Else-is_merged-2), lefts_asked (here c) (other c) c.requires.1.1.1 c.requires.0 c.requires.1.0 c.requires.1.1.0)

pub unite-requires : goal.unite-requires
unite-requires t c = (omega (arith, above (goal.at.unite-requires t c).Else-is_merged-2), rights_asked (here (goal.at.unite-requires t c).After-right_half-other_right) (other (goal.at.unite-requires t c).After-right_half-other_right) c.requires.1.1.1 c.requires.0 c.requires.1.0 c.requires.1.1.0)

pub join-requires : goal.join-requires
join-requires t c =
    let r = both_join ordinary_coded (here (goal.at.join-requires t c).After-right_half-other_right) (other (goal.at.join-requires t c).After-right_half-other_right) c.requires.0 c.requires.1.0.0 c.requires.1.1.0.0 _ _ c.unite-united.ensures c.unite.ensures
    (halves_room (here (goal.at.join-requires t c).After-right_half-other_right) (other (goal.at.join-requires t c).After-right_half-other_right) c.requires.1.1.1) in
    record { fact_1 = r.0; fact_2 = r.1.0; fact_3 = r.1.1.0; fact_4 = r.1.1.1 }

pub returns : goal.returns
returns t c = c.join.ensures ∙ both_sum ordinary_coded (here (goal.at.returns t c).After-right_half-other_right) (other (goal.at.returns t c).After-right_half-other_right) c.requires.0 c.requires.1.0.0 c.requires.1.1.0.0 _ _ c.unite-united.ensures c.unite.ensures
