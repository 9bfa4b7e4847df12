use mathlib.Core.Path.{◌≡◌, sym, ap, ◌∙◌}
use mathlib.Core.Bool.{false}
use Prim.Native.Nat.{ℕ, ◌+◌, ◌-◌, ◌^◌, ◌<◌}
use native.Mathlib.Omega.{arith}
use borrow.Author.Tests.{lt-ltb, le-ltb}
use Rattle.group_layout.specs.Layout.{layout}
use Rattle.group_layout.specs.Merged.{is_merged}
use Rattle.group_layout.proofs.Laws.{above_slot}
use Rattle.group_block.specs.Block.{block_as, total, sizes}
use Rattle.group_block.specs.Sum.{held, add as add-of}
use Rattle.group_block.specs.Passed.{summed_as}
use Rattle.group_block.proofs.Laws.{block_merged_of}
use Rattle.group_block.proofs.Adding.{size_total}
use Rattle.group_block.proofs.Halves.{Apart, left_sane, right_sane, left_clean, right_clean, sizes_apart}
use Rattle.group_block.proofs.Steps.{left_join, left_sum, right_join, right_sum}
use Rattle.group_block.proofs.+add.Goals as goal
use Rattle.group_block.proofs.+add.Goals.{After-add-2, After-right_half-right, Else-is_merged}

-- the block is two halves
is_apart : (g : _) {t : ℕ} (c : Else-is_merged g t) → is_merged (layout c.args.level c.args.merge) ≡ false
is_apart g c = sym c.is_merged.ensures ∙ c.if-is_merged.false

above : (g : _) {t : ℕ} (c : Else-is_merged g t) → 0 < c.args.level
above g c = above_slot c.args.level c.args.merge (is_apart g c)

-- the call for the right half, with the half's size as a power
right_call : (g : _) {t : ℕ} (c : After-add-2 g t)
    → let f = g.M.MeterKind in
    let r = c.right_half-right.result in
    c.add-2.result ≡ summed_as f.kind f.made (add-of (block_as f.kind (c.args.level - 1) r.word r.merge) (c.args.slot - 2 ^ (c.args.level - 1)) (f.means c.args.amount))
right_call g c = rw c.slots-size.ensures.value at c.add-2.ensures

module _ (g : _) {t : ℕ} (c : After-right_half-right g t) where
  here : let a = c.args in
      Apart a.level a.word a.merge c.left_half-left.result c.right_half-right.result
  here = record { apart = is_apart g (goal.at.After-right_half-right g t c).Else-is_merged; l_is = c.left_half-left.ensures; r_is = c.right_half-right.ensures }

  -- the halves' counters and the amount sum up to a number of 64 bits
  room : let k = g.M.MeterKind.kind in
      let l = block_as k (c.args.level - 1) c.left_half-left.result.word c.left_half-left.result.merge in
      let r = block_as k (c.args.level - 1) c.right_half-right.result.word c.right_half-right.result.merge in
      sizes l + k.size (g.M.MeterKind.means c.args.amount) + sizes r < 2 ^ 64
  room = omega (arith, sizes_apart here g.met.M.MeterKind.laws, c.requires.room)

  totals_room : let k = g.M.MeterKind.kind in
      let l = block_as k (c.args.level - 1) c.left_half-left.result.word c.left_half-left.result.merge in
      let r = block_as k (c.args.level - 1) c.right_half-right.result.word c.right_half-right.result.merge in
      k.size (total l) + k.size (g.M.MeterKind.means c.args.amount) + k.size (total r) < 2 ^ 64
  totals_room =
      let k = g.M.MeterKind.kind in
      let s = g.met.M.MeterKind.laws.sums in
      omega (
        arith,
        room,
        size_total s (block_as k (c.args.level - 1) c.left_half-left.result.word c.left_half-left.result.merge),
        size_total s (block_as k (c.args.level - 1) c.right_half-right.result.word c.right_half-right.result.merge),
      )

pub plus-requires : goal.plus-requires
unfolding sizes
plus-requires g t c = let a = c.args in
    rw c.read.ensures (rw (block_merged_of g.M.MeterKind.kind a.level a.word a.merge (sym c.is_merged.ensures ∙ c.if-is_merged.true)) at c.requires.room)

pub returns-then-is_merged : goal.returns-then-is_merged
unfolding add-of
returns-then-is_merged g t c =
    let f = g.M.MeterKind in
    let a = c.args in
    let sum = ap f.means c.plus.ensures ∙ g.met.M.MeterKind.laws.means_made _ ∙ ap (λ (v : f.kind.Value). f.kind.plus v (f.means a.amount)) c.read.ensures in
    rw (block_merged_of f.kind a.level a.word a.merge (sym c.is_merged.ensures ∙ c.if-is_merged.true))
    (c.held.ensures ∙ ap (λ (v : f.kind.Value). summed_as f.kind f.made (held {K = f.kind} a.level v)) sum)

pub overflow_sub-half : goal.overflow_sub-half
overflow_sub-half g t c = omega (arith, above g c)

pub add-requires : goal.add-requires
add-requires g t c κs within = let p = here g (goal.at.add-requires g t c).After-right_half-right in
    (omega (arith, above g (goal.at.add-requires g t c).Else-is_merged), (within.0, (within.1, (omega arith, (left_sane p c.requires.sane, (left_clean p g.met.M.MeterKind.laws c.requires.clean, omega (arith, room g (goal.at.add-requires g t c).After-right_half-right)))))))

pub join-requires : goal.join-requires
join-requires g t c =
    let h = (goal.at.join-requires g t c).After-right_half-right in
    let r = left_join g.met.M.MeterKind.laws (here g h) c.requires.level_bound c.requires.sane c.requires.clean c.args.slot (g.M.MeterKind.means c.args.amount) (totals_room g h) _ c.add.ensures in
    record { fact_1 = r.0; fact_2 = r.1.0; fact_3 = r.1.1.0; fact_4 = r.1.1.1 }

pub returns-then-slot-size : goal.returns-then-slot-size
returns-then-slot-size g t c =
    let h = (goal.at.returns-then-slot-size g t c).After-right_half-right in
    c.join.ensures
    ∙ left_sum g.met.M.MeterKind.laws (here g h) c.requires.level_bound c.requires.sane c.requires.clean c.args.slot (g.M.MeterKind.means c.args.amount) (totals_room g h) _ c.add.ensures
    (lt-ltb c.args.slot (2 ^ (c.args.level - 1)) (rw c.slots-size.ensures.value at c.if-slot-size.true))

pub add-requires-2 : goal.add-requires-2
add-requires-2 g t c κs within = let p = here g (goal.at.add-requires-2 g t c).After-right_half-right in
    (omega (arith, above g (goal.at.add-requires-2 g t c).Else-is_merged), (within.0, (within.1, (omega arith, (right_sane p c.requires.sane, (right_clean p g.met.M.MeterKind.laws c.requires.clean, omega (arith, room g (goal.at.add-requires-2 g t c).After-right_half-right)))))))

pub join-requires-2 : goal.join-requires-2
join-requires-2 g t c =
    let h = (goal.at.join-requires-2 g t c).After-right_half-right in
    let r = right_join g.met.M.MeterKind.laws (here g h) c.requires.level_bound c.requires.sane c.requires.clean c.args.slot (g.M.MeterKind.means c.args.amount) (totals_room g h) _ (right_call g c) in
    record { fact_1 = r.0; fact_2 = r.1.0; fact_3 = r.1.1.0; fact_4 = r.1.1.1 }

pub returns : goal.returns
returns g t c =
    let h = (goal.at.returns g t c).After-right_half-right in
    c.join-2.ensures
    ∙ right_sum g.met.M.MeterKind.laws (here g h) c.requires.level_bound c.requires.sane c.requires.clean c.args.slot (g.M.MeterKind.means c.args.amount) (totals_room g h) _ (right_call g (goal.at.returns g t c).After-add-2)
    (le-ltb c.args.slot (2 ^ (c.args.level - 1)) (rw c.slots-size.ensures.value at c.if-slot-size.false))
