use mathlib.Core.Path.{refl, ◌∙◌}
use native.Mathlib.Omega.{arith}
use lib.ListN.{set, length-set, get_or}
use lib.Seq.{get_or-set_same, get_or-set_other}
use Rattle.signed_union.proofs.Slots.{halves-slotted, nodes-small, nodes-beside}
use Prim.Native.Nat.{ℕ, ◌<◌}
use borrow.Author.Count.{below_more}
use Rattle.signed_union.specs.Slotted.{NodeOf, halves_of}
use Rattle.signed_union.proofs.eight_slots.Invariants.{none}
use Rattle.signed_union.proofs.eight_slots.Goals as goal
use Rattle.signed_union.proofs.eight_slots.Goals.{After-right-1}

-- the unions of the halves, after the loop
module _ (c : After-right-1) where
  left_is : NodeOf 2 (get_or c.loop-h.nodes 0 none) (halves_of 2 0 c.args.b)
  left_is = c.loop-h.invariant.2 0 (omega arith)

  right_is : NodeOf 2 (get_or c.loop-h.nodes 1 none) (halves_of 2 1 c.args.b)
  right_is = c.loop-h.invariant.2 1 (omega arith)

pub loop-h-init : goal.loop-h-init
loop-h-init c = (omega arith, refl, λ k h. absurd (omega arith))

pub four_slots-requires : goal.four_slots-requires
four_slots-requires c = rw c.halves.ensures (halves-slotted 2 c.args.b c.requires c.loop-h.h)

pub loop-h-preserved : goal.loop-h-preserved
loop-h-preserved c = let b = c.args.b in
    let h = c.loop-h.h in
    let xs = c.loop-h.nodes in
    let x = c.four_slots.result in
    let here : NodeOf 2 (get_or (set xs h x) h none) (halves_of 2 h b) =
    rw (get_or-set_same xs h x none (omega arith), ← c.halves.ensures) c.four_slots.ensures in
    let before : (k : ℕ) → k < h → NodeOf 2 (get_or (set xs h x) k none) (halves_of 2 k b) =
    λ k l. rw (get_or-set_other xs h k x none (λ e. omega arith)) (c.loop-h.invariant.2 k l) in
    (omega arith, length-set xs h x ∙ c.loop-h.invariant.1, below_more (λ (k : ℕ). NodeOf 2 (get_or (set xs h x) k none) (halves_of 2 k b)) h before here)

pub beside-requires : goal.beside-requires
beside-requires c = (omega arith, nodes-small 2 c.args.b c.requires _ _ (left_is c) (right_is c) (omega arith))

pub returns : goal.returns
returns c = nodes-beside 2 c.args.b c.requires _ _ (left_is (goal.at.returns c).After-right-1) (right_is (goal.at.returns c).After-right-1) c.beside.result c.beside.ensures.a_value c.beside.ensures.beside_as
