use mathlib.Core.Path.{◌≡◌, sym, ap, ◌∙◌}
use mathlib.Core.Bool.{true, false}
use Prim.Native.Nat.{ℕ, ◌+◌, ◌%◌, ◌^◌, ◌≤◌, ◌<◌}
use native.Mathlib.Omega.{arith}
use Rattle.little_endian.specs.Bytes as bytes_spec
use Rattle.answer.specs.Refusals.{number}
use Rattle.group.specs.declared.Group.{Group}
use Rattle.group.specs.Stored.{stored}
use Rattle.group_layout.specs.Layout.{valid}
use Rattle.group_block.specs.Block.{cap, total, counter_at}
use Rattle.group_slots.proofs.Slots.{level_block, whole_total}
use Rattle.group_sums.specs.Sums.{holds_at}
use Rattle.group.specs.Group.{decode}
use Rattle.group.proofs.Laws.{cap_three, holds_valid, not_held, added_invalid, added_full, added_stored}
use Rattle.group.proofs.add_widening.Goals as goal
use Rattle.group.proofs.add_widening.Goals.{After-level_at-level, Else-not-is_valid}

is_sane : (c : Else-not-is_valid) → valid 3 c.args.g.merge ≡ true
is_sane c = sym c.is_valid.ensures ∙ c.if-not-is_valid.false

module _ (l : After-level_at-level) where
  number_in : bytes_spec.number l.args.g.counts < cap 3
  unfolding cap
  number_in = rw (← l.number_of-word.ensures) (omega arith)

  -- the counter does not hold the sum
  not_holds : holds_at l.number_of-word.result l.args.g.merge (l.args.slot % 8) l.args.amount ≡ false
  unfolding decode
  not_holds =
      ap (λ (x : ℕ). holds_at x l.args.g.merge (l.args.slot % 8) l.args.amount) l.number_of-word.ensures
      ∙ sym (holds_valid l.args.g l.args.slot l.args.amount (is_sane (goal.at.After-level_at-level l).Else-not-is_valid))
      ∙ l.requires

  -- where it is the whole group, it is full
  whole_full : l.level_at-level.result ≡ 3 → 2 ^ 64 ≤ total (decode l.args.g) + l.args.amount
  unfolding decode
  whole_full e =
      let b = decode l.args.g in
      let k = l.args.slot % 8 in
      let level : (counter_at b k).level ≡ 3 = level_block 3 (bytes_spec.number l.args.g.counts) l.args.g.merge k ∙ sym l.level_at-level.ensures.value ∙ e in
      omega (arith, not_held l.args.g l.args.slot l.args.amount (is_sane (goal.at.After-level_at-level l).Else-not-is_valid) l.requires, ap cap level, cap_three, whole_total b k level)

pub returns-then-not-is_valid : goal.returns-then-not-is_valid
unfolding number
returns-then-not-is_valid c = let a = c.args in sym (added_invalid a.g a.slot a.amount (sym c.is_valid.ensures ∙ c.if-not-is_valid.true))

pub returns-then-level-eq3 : goal.returns-then-level-eq3
unfolding number
returns-then-level-eq3 c = let a = c.args in
    let l = (goal.at.returns-then-level-eq3 c).After-level_at-level in
    sym (added_full a.g a.slot a.amount (number_in l) (is_sane (goal.at.returns-then-level-eq3 c).Else-not-is_valid) (whole_full l c.if-level-eq3.true))

pub add_widening-requires-clause-fact_5 : goal.add_widening-requires-clause-fact_5
add_widening-requires-clause-fact_5 c = not_holds (goal.at.add_widening-requires-clause-fact_5 c).After-level_at-level

pub returns : goal.returns
unfolding decode stored
returns c = let a = c.args in
    ap (λ (h : Group). record { status = 0; group = h }) c.settled.ensures
    ∙ added_stored a.g a.slot a.amount c.add_widening.result (is_sane (goal.at.returns c).Else-not-is_valid) (rw (← c.number_of-word.ensures) c.add_widening.ensures)
