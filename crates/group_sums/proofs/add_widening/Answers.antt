use Rattle.std.proofs.Common.{IsOk}
use mathlib.Core.Path.{◌≡◌, sym, ◌∙◌}
use Prim.Native.Nat.{ℕ, ◌+◌, ◌^◌, ◌≤◌, ◌<◌}
use native.Mathlib.Omega.{arith}
use borrow.Author.Tests.{ltb-false}
use Rattle.group_layout.specs.Layout.{layout}
use Rattle.group_block.specs.Block.{cap, total, block, counter_at}
use Rattle.group_block.specs.Sum.{add}
use Rattle.group_block.specs.Passed.{summed, summed_as}
use Rattle.group_block.proofs.Laws.{block_fits, all_clean_lem}
use Rattle.group_block.proofs.Adding.{add_total, add_sound, no_over, sizes_total}
use Rattle.group_slots.proofs.Slots.{halves_total}
use Rattle.group_sums.proofs.Places.{has_level}
use Rattle.group_sums.proofs.add_widening.Goals as goal
use Rattle.group_sums.proofs.add_widening.Goals.{Start}

module _ (s : Start) where
  abbrev w : ℕ
  w = s.args.word

  abbrev m : ℕ
  m = s.args.merge

  word_in : w < cap 3
  unfolding cap
  word_in = omega arith

  level_is : (counter_at (block 3 w m) s.args.slot).level ≡ s.args.level
  level_is = has_level w m s.args.slot s.requires.fact_3

  past : cap s.args.level ≤ (counter_at (block 3 w m) s.args.slot).value + s.args.amount
  past =
      let c = counter_at (block 3 w m) s.args.slot in
      rw level_is at (ltb-false (c.value + s.args.amount) (cap c.level) s.requires.fact_5)

  halves_lt : total (block 3 w m) + s.args.amount < 2 ^ 64
  unfolding cap
  halves_lt =
      omega (arith, halves_total (block 3 w m) s.args.slot (block_fits 3 w m word_in) (λ f. omega (arith, sym level_is ∙ f, s.requires.fact_4)))

  -- no sum is over
  fits_is : IsOk (summed (add (block 3 w m) s.args.slot s.args.amount))
  unfolding summed_as cap
  fits_is =
      let x = add (block 3 w m) s.args.slot s.args.amount in
      let sound = add_sound (block 3 w m) s.args.slot s.args.amount (block_fits 3 w m word_in) in
      rw (no_over x sound (omega (arith, halves_lt, add_total (block 3 w m) s.args.slot s.args.amount))).1

pub widened-requires : goal.widened-requires
widened-requires c = record { fact_1 = c.requires.fact_1; fact_2 = c.requires.fact_4; fact_3 = c.requires.fact_2; fact_4 = past c }

pub add-requires : goal.add-requires
unfolding cap
add-requires c = record {
  level_bound = omega arith;
  sane = (omega (arith, word_in (goal.at.add-requires c).Start), c.requires.fact_1);
  clean = all_clean_lem (layout 3 c.args.merge) c.args.word;
  room = omega (arith, halves_lt (goal.at.add-requires c).Start, sizes_total (block 3 c.args.word c.args.merge));
}

pub unwrap-requires : goal.unwrap-requires
unwrap-requires c = rw c.add.ensures (fits_is (goal.at.unwrap-requires c).Start)

pub returns : goal.returns
returns c = sym c.unwrap.ensures ∙ c.add.ensures
