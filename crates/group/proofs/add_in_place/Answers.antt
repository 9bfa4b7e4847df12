use mathlib.Core.Path.{◌≡◌, sym, ap, ◌∙◌}
use mathlib.Core.Bool.{true}
use Prim.Native.Nat.{ℕ, ◌%◌}
use native.Mathlib.Omega.{arith}
use Rattle.group_layout.specs.Layout.{valid}
use Rattle.group_block.specs.Block.{cap}
use Rattle.group_sums.specs.Sums.{holds_at}
use Rattle.group.specs.Results.{Outcome}
use Rattle.group.specs.Group.{decode, read, added, holds}
use Rattle.group.specs.Stored.{stored}
use Rattle.group.proofs.Laws.{added_stored, holds_valid, read_held}
use Rattle.group.proofs.Results.{kept_ok}
use Rattle.group.proofs.add_in_place.Goals as goal
use Rattle.group.proofs.add_in_place.Goals.{In_ok-sum, Else-not-is_valid}

is_sane : (c : Else-not-is_valid) → valid 3 c.args.g.merge ≡ true
is_sane c = sym c.is_valid.ensures ∙ c.if-not-is_valid.false

-- what an addition in place to the number comes to
module _ (d : In_ok-sum) where
  holds_is : holds d.args.g d.args.slot d.args.amount ≡ true
  unfolding decode
  holds_is =
      holds_valid d.args.g d.args.slot d.args.amount (is_sane (goal.at.In_ok-sum d).Else-not-is_valid)
      ∙ ap (λ (x : ℕ). holds_at x d.args.g.merge (d.args.slot % 8) d.args.amount) (sym d.number_of.ensures)
      ∙ sym d.in_ok-sum.ensures.held_value

  sum_is : stored (record { word = d.in_ok-sum.sum.word; merge = d.args.g.merge }) ≡ added d.args.g d.args.slot d.args.amount
  unfolding decode
  sum_is = added_stored d.args.g d.args.slot d.args.amount _ (is_sane (goal.at.In_ok-sum d).Else-not-is_valid) (rw (← d.number_of.ensures) d.in_ok-sum.ensures.stays.0)

  value_is : d.in_ok-sum.sum.value ≡ (read (added d.args.g d.args.slot d.args.amount).group d.args.slot).value
  unfolding decode cap
  value_is =
      rw d.number_of.ensures at d.in_ok-sum.ensures.stays.1
      ∙ sym (read_held d.args.g d.args.slot d.args.amount (omega (arith, d.number_of.ensures)) holds_is)

pub returns : goal.returns
unfolding stored
returns c = let a = c.args in
    let d = (goal.at.returns c).In_ok-sum in
    kept_ok a.g a.slot a.amount _ (record { held = holds_is d; counts = c.bytes_of.ensures ∙ ap (λ (o : Outcome). o.group.counts) (sum_is d); value = value_is d })
