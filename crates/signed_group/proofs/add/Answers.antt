use mathlib.Core.Path.{◌≡◌, sym, ap, ◌∙◌}
use mathlib.Core.Bool.{true}
use Prim.Native.Nat.{◌%◌}
use native.Mathlib.Omega.{arith}
use lib.IntN.{ℤ}
use Rattle.group_layout.specs.Layout.{layout}
use Rattle.group_block.specs.Block.{cap, all_clean}
use Rattle.group_block.specs.Sum.{add}
use Rattle.signed_number.specs.Number.{integer}
use Rattle.signed_block.specs.Signed.{signed}
use Rattle.signed_group.specs.Group.{bad_group, decode}
use Rattle.answer.specs.Refusals.{status}
use Rattle.std.proofs.lemmas.Result.{err_from_is_err_and}
use Rattle.signed_group.proofs.Laws.{Clean, good_clean, added_settled}
use Rattle.signed_group.proofs.Results.{outcome_stored, addition_refused}
use Rattle.signed_group.proofs.add.Goals as goal
use Rattle.signed_group.proofs.add.Goals.{After-number_of-word}

-- the group is refused by no line, and the number is that of its count bytes
module _ (n : After-number_of-word) where
  abbrev amount : ℤ
  amount = integer n.args.minus n.args.magnitude

  good : bad_group n.args.g ≡ 0
  unfolding status
  good = sym n.in_ok-bad_group.ensures

  clean : Clean n.args.g
  clean = good_clean n.args.g good

  word_clean : all_clean signed (layout 3 n.args.g.merge) n.number_of-word.result ≡ true
  word_clean = ap (all_clean signed (layout 3 n.args.g.merge)) n.number_of-word.ensures ∙ clean.counters

pub returns-in_err-bad_group : goal.returns-in_err-bad_group
unfolding status
returns-in_err-bad_group c = let a = c.args in
    let p = err_from_is_err_and c.from_residual.result c.from_residual.ensures.1 in
    rw (p.1, p.2) (addition_refused a.g a.slot (integer a.minus a.magnitude) c.in_err-bad_group.field-0.0 c.in_err-bad_group.ensures)

pub add_in_place-requires : goal.add_in_place-requires
add_in_place-requires c = record { fact_1 = (clean c).merges; fact_2 = omega arith; fact_3 = word_clean c }

pub returns-in-Some : goal.returns-in-Some
unfolding decode
returns-in-Some c = let a = c.args in
    outcome_stored a.g (add (decode a.g) (a.slot % 8) (amount (goal.at.returns-in-Some c).After-number_of-word)) _ (rw (← c.number_of-word.ensures) c.in-Some.ensures.stays) c.settled.result c.settled.ensures
    ∙ sym (added_settled a.g a.slot (amount (goal.at.returns-in-Some c).After-number_of-word) (good (goal.at.returns-in-Some c).After-number_of-word))

pub add_widening-requires : goal.add_widening-requires
unfolding cap
add_widening-requires c = record { fact_1 = ((omega arith, (clean (goal.at.add_widening-requires c).After-number_of-word).merges), word_clean (goal.at.add_widening-requires c).After-number_of-word); fact_2 = omega arith; fact_3 = omega arith; fact_4 = sym c.in_default.ensures.held_value }

pub returns : goal.returns
unfolding decode
returns c = let a = c.args in
    c.outcome.ensures a.g (add (decode a.g) (a.slot % 8) (amount (goal.at.returns c).After-number_of-word)) (rw (← c.number_of-word.ensures) c.add_widening.ensures)
    ∙ sym (added_settled a.g a.slot (amount (goal.at.returns c).After-number_of-word) (good (goal.at.returns c).After-number_of-word))
