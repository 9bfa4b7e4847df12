use mathlib.Core.Path.{◌≡◌, sym, ap, ◌∙◌}
use mathlib.Core.Bool.{true, and-eq-true_iff}
use Prim.Native.Nat.{ℕ, suc, ◌+◌, ◌*◌, ◌/◌, ◌%◌, ◌^◌, ◌≤◌, ◌<◌}
use native.Mathlib.Nat.{mul-mod_left}
use native.Mathlib.Numerals.{add-one}
use native.Mathlib.Omega.{arith}
use borrow.Author.Tests.{eqb-true}
use Rattle.group_layout.specs.Layout.{layout, level_of}
use Rattle.group_block.specs.Kind.{ordinary}
use Rattle.group_block.specs.Block.{cap, all_clean, block_as, block, counter_value}
use Rattle.group_block.specs.Figure.{ordinary_coded}
use Rattle.group_block.proofs.Laws.{cap_pos, all_clean_lem}
use Rattle.group_slots.proofs.AnyKind.{value_of}
use Rattle.group_sums.proofs.Widening.{second_in, put_in, put_is}
use Rattle.group_sums.proofs.widened.Goals as goal
use Rattle.group_sums.proofs.widened.Goals.{After-place-at, Else-most-sum, Start}

word_in : (c : Start) → c.args.word < cap 3
unfolding cap
word_in c = omega arith

module _ (c : After-place-at) where
  abbrev p : ℕ
  p = c.place-at.result / 8

  p_is : p ≡ c.args.slot / 2 ^ suc c.args.level * 2 ^ suc c.args.level
  p_is = rw (← add-one c.args.level) (omega (arith, c.place-at.ensures.value))

  p_eight : 8 * p ≡ c.place-at.result
  p_eight = omega (arith, c.place-at.ensures.value)

  p_multiple : p % 2 ^ (c.args.level + 1) ≡ 0
  p_multiple = rw (add-one c.args.level, p_is) (mul-mod_left (c.args.slot / 2 ^ suc c.args.level) (2 ^ suc c.args.level))

  p_in : p + 2 ^ c.args.level < 8
  p_in = second_in c.args.slot c.args.level p c.requires.fact_3 c.requires.fact_2 p_is

-- where both counters have this level and the next level holds the sum
module _ (c : Else-most-sum) where
  both : (level_of (layout 3 c.args.merge) (p (goal.at.Else-most-sum c).After-place-at) ≡ c.args.level) × (level_of (layout 3 c.args.merge) (p (goal.at.Else-most-sum c).After-place-at + 2 ^ c.args.level) ≡ c.args.level)
  both =
      let e = (and-eq-true_iff _ _).0 (sym c.twins.ensures ∙ c.if-not-twins.false) in
      (eqb-true _ _ e.0, eqb-true _ _ e.1)

  past : cap c.args.level ≤ counter_value (block 3 c.args.word c.args.merge) c.args.slot + c.args.amount
  unfolding block_as
  past = rw (value_of ordinary (layout 3 c.args.merge) c.args.word c.args.slot) c.requires.fact_4

  small : c.twin_sum.result + c.args.amount < cap (c.args.level + 1)
  small = omega (arith, c.if-most-sum.false, c.most.ensures, cap_pos (c.args.level + 1))

  abbrev In : Type 0
  In =
      c.args.word + (c.twin_sum.result + c.args.amount) * 2 ^ c.place-at.result
      < 2 ^ 64 + c.args.word / 2 ^ c.place-at.result % cap (c.args.level + 1) * 2 ^ c.place-at.result

  abbrev sum : ℕ
  sum = c.twin_sum.result + c.args.amount

  sum_is : sum ≡ c.args.word / 2 ^ c.place-at.result % cap (c.args.level + 1) % cap c.args.level + c.args.word / 2 ^ c.place-at.result % cap (c.args.level + 1) / cap c.args.level + c.args.amount
  sum_is = ap (λ (x : ℕ). x + c.args.amount) c.twin_sum.ensures.value

  abbrev clean : all_clean ordinary (layout 3 c.args.merge) c.args.word ≡ true
  clean = all_clean_lem (layout 3 c.args.merge) c.args.word

  number_in : In
  number_in =
      put_in ordinary_coded c.args.word c.args.merge c.args.slot c.args.amount c.args.level c.place-at.result (word_in (goal.at.Else-most-sum c).Start)
      c.requires.fact_1 clean c.requires.fact_3 c.requires.fact_2 c.place-at.ensures.value both.0 both.1 past sum sum_is small

pub twins-requires : goal.twins-requires
twins-requires c = record { fact_1 = c.requires.fact_1; fact_2 = c.requires.fact_2; fact_3 = p_in c }

pub put-requires : goal.put-requires
put-requires c = record { fact_1 = omega arith; fact_2 = c.place-at.ensures.upper_bound; fact_3 = number_in c }

pub formed-requires : goal.formed-requires
formed-requires c = record { fact_1 = c.requires.fact_1; fact_2 = c.requires.fact_2; fact_3 = p_in (goal.at.formed-requires c).After-place-at; fact_4 = (p_multiple (goal.at.formed-requires c).After-place-at, (both (goal.at.formed-requires c).Else-most-sum).0) }

pub returns : goal.returns
returns c = let a = c.args in
    put_is ordinary_coded a.word a.merge a.slot a.amount a.level c.place-at.result (word_in (goal.at.returns c).Start) c.requires.fact_1
    (clean (goal.at.returns c).Else-most-sum) c.requires.fact_3 c.requires.fact_2 c.place-at.ensures.value (both (goal.at.returns c).Else-most-sum).0 (both (goal.at.returns c).Else-most-sum).1 (past (goal.at.returns c).Else-most-sum) (sum (goal.at.returns c).Else-most-sum) (sum_is (goal.at.returns c).Else-most-sum) (small (goal.at.returns c).Else-most-sum)
    c.put.result c.formed.result c.put.ensures c.formed.ensures
