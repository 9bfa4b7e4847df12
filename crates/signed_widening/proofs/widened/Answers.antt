use Rattle.std.proofs.Common.{Ok}
use mathlib.Core.Path.{◌≡◌, refl, sym, ap, ◌∙◌}
use mathlib.Core.Bool.{and-eq-true_iff}
use Prim.Native.Nat.{ℕ, suc, ◌+◌, ◌-◌, ◌*◌, ◌/◌, ◌%◌, ◌^◌, ◌<◌}
use native.Mathlib.Nat.{mul-mod_left}
use native.Mathlib.Numerals.{add-one}
use native.Mathlib.Omega.{arith}
use borrow.Author.Tests.{eqb-true}
use lib.IntN.{ℤ, ◌+ℤ◌, nat_abs}
use Rattle.group_layout.specs.Layout.{layout, level_of}
use Rattle.group_block.specs.Block.{cap}
use Rattle.group_block.specs.Sum.{add}
use Rattle.group_sums.proofs.Widening.{second_in, put_in, put_is}
use Rattle.signed_number.specs.Number.{integer_of}
use Rattle.signed_number.proofs.Integers.{integer_is, size_is, canonical_is}
use Rattle.signed_block.specs.Signed.{top, sign_bits, sign_read}
use Rattle.signed_block.specs.Passed.{signed_block, signed_summed}
use Rattle.signed_block.proofs.Counters.{signed_coded}
use Rattle.signed_widening.proofs.widened.Goals as goal
use Rattle.signed_widening.proofs.widened.Goals.{After-place-at, After-plus-sum, Else-top-sum}

module _ (c : After-place-at) where
  abbrev p : ℕ
  p = c.place-at.result / 8

  p_is : p ≡ c.args.slot / 2 ^ suc c.args.level * 2 ^ suc c.args.level
  p_is = rw (← add-one c.args.level) (omega (arith, c.place-at.ensures.value))

  p_multiple : p % 2 ^ (c.args.level + 1) ≡ 0
  p_multiple = rw (add-one c.args.level, p_is) (mul-mod_left (c.args.slot / 2 ^ suc c.args.level) (2 ^ suc c.args.level))

  p_in : p + 2 ^ c.args.level < 8
  p_in = second_in c.args.slot c.args.level p c.requires.fact_3 c.requires.fact_2 p_is

-- the sum of both counters and the amount
module _ (c : After-plus-sum) where
  both : (level_of (layout 3 c.args.merge) (p (goal.at.After-plus-sum c).After-place-at) ≡ c.args.level) × (level_of (layout 3 c.args.merge) (p (goal.at.After-plus-sum c).After-place-at + 2 ^ c.args.level) ≡ c.args.level)
  both =
      let e = (and-eq-true_iff _ _).0 (sym c.twins.ensures ∙ c.if-not-twins.false) in
      (eqb-true _ _ e.0, eqb-true _ _ e.1)

  abbrev parts : ℕ
  parts = c.args.word / 2 ^ c.place-at.result % cap (c.args.level + 1)

  abbrev pair : ℤ
  pair = sign_read c.args.level (parts % cap c.args.level) +ℤ sign_read c.args.level (parts / cap c.args.level)

  sum_is : integer_of c.plus-sum.result ≡ pair +ℤ integer_of c.args.amount
  sum_is =
      integer_is c.plus-sum.result (integer_of c.twin_sum.result +ℤ integer_of c.args.amount) c.plus-sum.ensures.value
      ∙ ap (λ (x : ℤ). x +ℤ integer_of c.args.amount) (integer_is c.twin_sum.result pair c.twin_sum.ensures.value)

-- which one counter of the next level holds
module _ (c : Else-top-sum) where
  small : c.plus-sum.result.magnitude < top (c.args.level + 1)
  small = omega (arith, c.if-top-sum.false, c.top.ensures)

  size : nat_abs (integer_of c.plus-sum.result) < top (c.args.level + 1)
  size = rw (← size_is c.plus-sum.result (integer_of c.plus-sum.result) refl) small

  abbrev In : Type 0
  In =
      c.args.word + sign_bits (c.args.level + 1) (integer_of c.plus-sum.result) * 2 ^ c.place-at.result
      < 2 ^ 64 + c.args.word / 2 ^ c.place-at.result % cap (c.args.level + 1) * 2 ^ c.place-at.result

  number_in : In
  number_in =
      put_in signed_coded c.args.word c.args.merge c.args.slot (integer_of c.args.amount) c.args.level c.place-at.result c.requires.fact_1.0.0
      c.requires.fact_1.0.1 c.requires.fact_1.1 c.requires.fact_3 c.requires.fact_2 c.place-at.ensures.value (both (goal.at.Else-top-sum c).After-plus-sum).0 (both (goal.at.Else-top-sum c).After-plus-sum).1 c.requires.fact_5
      (integer_of c.plus-sum.result) (sum_is (goal.at.Else-top-sum c).After-plus-sum) size

  number_is : (x y : ℕ) → x + c.args.word / 2 ^ c.place-at.result % cap (c.args.level + 1) * 2 ^ c.place-at.result
      ≡ c.args.word + sign_bits (c.args.level + 1) (integer_of c.plus-sum.result) * 2 ^ c.place-at.result
      → y ≡ c.args.merge + 2 ^ (2 ^ c.args.level - 1) * 2 ^ (c.place-at.result / 8)
      → Ok (record { word = x; merge = y }) ≡ signed_summed (add (signed_block 3 c.args.word c.args.merge) c.args.slot (integer_of c.args.amount))
  number_is =
      put_is signed_coded c.args.word c.args.merge c.args.slot (integer_of c.args.amount) c.args.level c.place-at.result c.requires.fact_1.0.0
      c.requires.fact_1.0.1 c.requires.fact_1.1 c.requires.fact_3 c.requires.fact_2 c.place-at.ensures.value (both (goal.at.Else-top-sum c).After-plus-sum).0 (both (goal.at.Else-top-sum c).After-plus-sum).1 c.requires.fact_5
      (integer_of c.plus-sum.result) (sum_is (goal.at.Else-top-sum c).After-plus-sum) size

pub twins-requires : goal.twins-requires
twins-requires c = let a = c.requires in record { fact_1 = a.fact_1.0.1; fact_2 = a.fact_2; fact_3 = p_in c }

pub bits-requires : goal.bits-requires
bits-requires c = record { fact_1 = omega arith; fact_2 = small c; fact_3 = canonical_is c.plus-sum.result (integer_of c.twin_sum.result +ℤ integer_of c.args.amount) c.plus-sum.ensures.value }

pub put-requires : goal.put-requires
put-requires c = record { fact_1 = omega arith; fact_2 = c.place-at.ensures.upper_bound; fact_3 = rw (← c.bits.ensures) at (number_in (goal.at.put-requires c).Else-top-sum) }

pub formed-requires : goal.formed-requires
formed-requires c = record { fact_1 = c.requires.fact_1.0.1; fact_2 = c.requires.fact_2; fact_3 = p_in (goal.at.formed-requires c).After-place-at; fact_4 = (p_multiple (goal.at.formed-requires c).After-place-at, (both (goal.at.formed-requires c).After-plus-sum).0) }

pub returns : goal.returns
returns c = number_is (goal.at.returns c).Else-top-sum c.put.result c.formed.result
    (c.put.ensures ∙ ap (λ (x : ℕ). c.args.word + x * 2 ^ c.place-at.result) c.bits.ensures) c.formed.ensures
