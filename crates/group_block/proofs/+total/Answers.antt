use mathlib.Core.Path.{◌≡◌, sym, ap, ap₂, ◌∙◌}
use mathlib.Core.Bool.{false}
use Prim.Native.Nat.{ℕ, ◌-◌, ◌<◌}
use native.Mathlib.Omega.{arith}
use Rattle.group_layout.specs.Layout.{layout}
use Rattle.group_layout.specs.Merged.{is_merged}
use Rattle.group_layout.proofs.Laws.{above_slot}
use Rattle.group_block.specs.Block.{total as total_of}
use Rattle.group_block.proofs.Laws.{block_merged_of, cap_below}
use Rattle.group_block.proofs.Halves.{Apart, words_in, totals_in, total_apart}
use Rattle.group_block.proofs.+total.Goals as goal
use Rattle.group_block.proofs.+total.Goals.{After-right_half-right, Else-is_merged}

-- the block is two halves
is_apart : (g : _) {t : ℕ} (c : Else-is_merged g t) → is_merged (layout c.args.level c.args.merge) ≡ false
is_apart g c = sym c.is_merged.ensures ∙ c.if-is_merged.false

above : (g : _) {t : ℕ} (c : Else-is_merged g t) → 0 < c.args.level
above g c = above_slot c.args.level c.args.merge (is_apart g c)

here : (g : _) {t : ℕ} (c : After-right_half-right g t)
    → let a = c.args in
    Apart a.level a.word a.merge c.left_half-left.result c.right_half-right.result
here g {t} c = record { apart = is_apart g (goal.at.After-right_half-right g t c).Else-is_merged; l_is = c.left_half-left.ensures; r_is = c.right_half-right.ensures }

pub returns-then-is_merged : goal.returns-then-is_merged
unfolding total_of
returns-then-is_merged g t c = let a = c.args in
    rw (block_merged_of g.M.MeterKind.kind a.level a.word a.merge (sym c.is_merged.ensures ∙ c.if-is_merged.true)) c.read.ensures

pub overflow_sub-half : goal.overflow_sub-half
overflow_sub-half g t c = omega (arith, above g c)

pub total-requires : goal.total-requires
total-requires g t c κs within = (omega (arith, above g (goal.at.total-requires g t c).Else-is_merged), (within.0, (within.1, (omega arith, (words_in (here g c) c.requires.1).0))))

pub total-requires-2 : goal.total-requires-2
total-requires-2 g t c κs within = (omega (arith, above g (goal.at.total-requires-2 g t c).Else-is_merged), (within.0, (within.1, (omega arith, (words_in (here g (goal.at.total-requires-2 g t c).After-right_half-right) c.requires.1).1))))

pub plus-requires : goal.plus-requires
plus-requires g t c =
    let d = g.met.M.MeterKind.laws in
    let i = totals_in (here g (goal.at.plus-requires g t c).After-right_half-right) d c.requires.1 in
    let n = c.args.level - 1 in
    rw (c.total.ensures, c.total-2.ensures) (omega (arith, i.0, i.1, d.codes.bound_le n, cap_below n (omega arith)))

pub returns : goal.returns
returns g t c =
    let f = g.M.MeterKind in
    let d = g.met.M.MeterKind.laws in
    ap f.means c.plus.ensures
    ∙ d.means_made _
    ∙ ap₂ f.kind.plus c.total.ensures c.total-2.ensures
    ∙ total_apart (here g (goal.at.returns g t c).After-right_half-right) d
