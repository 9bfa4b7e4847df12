use mathlib.Core.Path.{◌≡◌, sym, ap, ap₂, ◌∙◌}
use mathlib.Core.Bool.{false}
use Prim.Native.Nat.{ℕ, ◌+◌, ◌-◌, ◌^◌, ◌<◌}
use native.Mathlib.Omega.{arith}
use Rattle.group_layout.specs.Layout.{layout}
use Rattle.group_layout.specs.Merged.{is_merged}
use Rattle.group_layout.proofs.Laws.{above_slot}
use Rattle.group_block.specs.Block.{block_as, total, sizes}
use Rattle.group_block.specs.Sum.{held, unite as unite-of}
use Rattle.group_block.specs.Passed.{summed_as}
use Rattle.group_block.proofs.Laws.{block_merged_of}
use Rattle.group_block.proofs.Adding.{size_total}
use Rattle.group_block.proofs.Halves.{Apart, left_sane, right_sane, left_clean, right_clean, sizes_apart}
use Rattle.group_block.proofs.Uniting.{unite_counter, both_join, both_sum}
use Rattle.group_block.proofs.+unite.Goals as goal
use Rattle.group_block.proofs.+unite.Goals.{After-right_half-other_right, Else-is_merged-2}

-- both blocks are two halves
module _ (g : _) {t : ℕ} (c : Else-is_merged-2 g t) where
  is_apart : let a = c.args in is_merged (layout a.level a.merge) ≡ false
  is_apart = sym c.is_merged.ensures ∙ c.if-is_merged.false

  other_apart : let a = c.args in is_merged (layout a.level a.other_merge) ≡ false
  other_apart = sym c.is_merged-2.ensures ∙ c.if-is_merged-2.false

  above : 0 < c.args.level
  above = above_slot _ _ is_apart

module _ (g : _) {t : ℕ} (c : After-right_half-other_right g t) where
  here : let a = c.args in
      Apart a.level a.word a.merge c.left_half-left.result c.right_half-right.result
  here = record { apart = is_apart g (goal.at.After-right_half-other_right g t c).Else-is_merged-2; l_is = c.left_half-left.ensures; r_is = c.right_half-right.ensures }

  other : let a = c.args in
      Apart a.level a.other_word a.other_merge c.left_half-other_left.result c.right_half-other_right.result
  other = record { apart = other_apart g (goal.at.After-right_half-other_right g t c).Else-is_merged-2; l_is = c.left_half-other_left.ensures; r_is = c.right_half-other_right.ensures }

  -- the halves' counters sum up to a number of 64 bits
  room : let k = g.M.MeterKind.kind in
      let n = c.args.level - 1 in
      sizes (block_as k n c.left_half-left.result.word c.left_half-left.result.merge) + sizes (block_as k n c.left_half-other_left.result.word c.left_half-other_left.result.merge)
      + (sizes (block_as k n c.right_half-right.result.word c.right_half-right.result.merge) + sizes (block_as k n c.right_half-other_right.result.word c.right_half-other_right.result.merge)) < 2 ^ 64
  room = omega (arith, sizes_apart here g.met.M.MeterKind.laws, sizes_apart other g.met.M.MeterKind.laws, c.requires.room)

  totals_room : let k = g.M.MeterKind.kind in
      let n = c.args.level - 1 in
      k.size (total (block_as k n c.left_half-left.result.word c.left_half-left.result.merge)) + k.size (total (block_as k n c.left_half-other_left.result.word c.left_half-other_left.result.merge))
      + (k.size (total (block_as k n c.right_half-right.result.word c.right_half-right.result.merge)) + k.size (total (block_as k n c.right_half-other_right.result.word c.right_half-other_right.result.merge))) < 2 ^ 64
  totals_room =
      let k = g.M.MeterKind.kind in
      let s = g.met.M.MeterKind.laws.sums in
      let n = c.args.level - 1 in
      omega (
        arith,
        room,
        size_total s (block_as k n c.left_half-left.result.word c.left_half-left.result.merge),
        size_total s (block_as k n c.left_half-other_left.result.word c.left_half-other_left.result.merge),
        size_total s (block_as k n c.right_half-right.result.word c.right_half-right.result.merge),
        size_total s (block_as k n c.right_half-other_right.result.word c.right_half-other_right.result.merge),
      )

pub plus-requires : goal.plus-requires
unfolding sizes
plus-requires g t c =
    let a = c.args in
    let k = g.M.MeterKind.kind in
    let e = rw (block_merged_of k a.level a.word a.merge (sym c.is_merged.ensures ∙ c.if-is_merged.true)) at c.requires.room in
    rw (c.read.ensures, c.total.ensures) (omega (arith, e, size_total g.met.M.MeterKind.laws.sums (block_as k a.level a.other_word a.other_merge)))

pub returns-then-is_merged : goal.returns-then-is_merged
unfolding unite-of
returns-then-is_merged g t c =
    let f = g.M.MeterKind in
    let a = c.args in
    let sum = ap f.means c.plus.ensures ∙ g.met.M.MeterKind.laws.means_made _ ∙ ap₂ f.kind.plus c.read.ensures c.total.ensures in
    rw (block_merged_of f.kind a.level a.word a.merge (sym c.is_merged.ensures ∙ c.if-is_merged.true))
    (c.held.ensures ∙ ap (λ (v : f.kind.Value). summed_as f.kind f.made (held {K = f.kind} a.level v)) sum)

pub plus-requires-then-is_merged-2 : goal.plus-requires-then-is_merged-2
unfolding sizes
plus-requires-then-is_merged-2 g t c =
    let a = c.args in
    let k = g.M.MeterKind.kind in
    let e = rw (block_merged_of k a.level a.other_word a.other_merge (sym c.is_merged-2.ensures ∙ c.if-is_merged-2.true)) at c.requires.room in
    rw (c.read-then-is_merged-2.ensures, c.total-then-is_merged-2.ensures) (omega (arith, e, size_total g.met.M.MeterKind.laws.sums (block_as k a.level a.word a.merge)))

pub returns-then-is_merged-2 : goal.returns-then-is_merged-2
returns-then-is_merged-2 g t c =
    let f = g.M.MeterKind in
    let a = c.args in
    let sum = ap f.means c.plus-then-is_merged-2.ensures ∙ g.met.M.MeterKind.laws.means_made _ ∙ ap₂ f.kind.plus c.total-then-is_merged-2.ensures c.read-then-is_merged-2.ensures in
    rw (
      block_merged_of f.kind a.level a.other_word a.other_merge (sym c.is_merged-2.ensures ∙ c.if-is_merged-2.true),
      unite_counter (block_as f.kind a.level a.word a.merge) (f.kind.read a.level a.other_word),
    )
    (c.held-then-is_merged-2.ensures ∙ ap (λ (v : f.kind.Value). summed_as f.kind f.made (held {K = f.kind} a.level v)) sum)

pub overflow_sub-half : goal.overflow_sub-half
overflow_sub-half g t c = omega (arith, above g c)

pub unite-united-requires : goal.unite-united-requires
unite-united-requires g t c κs within =
    let q = c.requires in
    let d = g.met.M.MeterKind.laws in
    let h = here g c in
    let o = other g c in
    (omega (arith, above g (goal.at.unite-united-requires g t c).Else-is_merged-2), (within.0, (within.1, (omega arith, (left_sane h q.sane, (left_clean h d q.clean, (left_sane o q.other_sane, (left_clean o d q.other_clean, omega (arith, room g c)))))))))

pub unite-requires : goal.unite-requires
unite-requires g t c κs within =
    let q = c.requires in
    let d = g.met.M.MeterKind.laws in
    let e = (goal.at.unite-requires g t c).After-right_half-other_right in
    let h = here g e in
    let o = other g e in
    (omega (arith, above g (goal.at.unite-requires g t c).Else-is_merged-2), (within.0, (within.1, (omega arith, (right_sane h q.sane, (right_clean h d q.clean, (right_sane o q.other_sane, (right_clean o d q.other_clean, omega (arith, room g e)))))))))

pub join-requires : goal.join-requires
join-requires g t c =
    let e = (goal.at.join-requires g t c).After-right_half-other_right in
    let r = both_join g.met.M.MeterKind.laws (here g e) (other g e) c.requires.level_bound c.requires.sane.0 c.requires.other_sane.0 _ _ c.unite-united.ensures c.unite.ensures (totals_room g e) in
    record { fact_1 = r.0; fact_2 = r.1.0; fact_3 = r.1.1.0; fact_4 = r.1.1.1 }

pub returns : goal.returns
returns g t c =
    let e = (goal.at.returns g t c).After-right_half-other_right in
    c.join.ensures
    ∙ both_sum g.met.M.MeterKind.laws (here g e) (other g e) c.requires.level_bound c.requires.sane.0 c.requires.other_sane.0 _ _ c.unite-united.ensures c.unite.ensures
