use mathlib.Core.Path.{◌≡◌, sym, ap, ◌∙◌}
use mathlib.Core.Bool.{true}
use Prim.Native.Nat.{ℕ, ◌+◌, ◌*◌, ◌/◌, ◌%◌, ◌^◌, ◌≤◌, ◌<◌}
use native.Mathlib.Nat.{mod-eq_of_lt}
use native.Mathlib.Omega.{arith}
use borrow.Author.Tests.{ltb-true}
use lib.Dec.{ltb}
use lib.IntN.{ℤ, ◌+ℤ◌, nat_abs}
use Rattle.group_layout.specs.Layout.{layout, level_of}
use Rattle.group_block.specs.declared.Counter.{Counter}
use Rattle.group_block.specs.Block.{cap, number_of, block, counter_value, counter_at}
use Rattle.group_block.specs.Change.{change}
use Rattle.group_slots.proofs.Places.{first_is, first_in}
use Rattle.group_sums.proofs.Places.{counter_at_lem, value_put}
use Rattle.signed_number.specs.Number.{integer_of}
use Rattle.signed_block.specs.Signed.{top, sign_bits, sign_read}
use Rattle.signed_block.specs.Passed.{signed_block}
use Rattle.signed_block.proofs.Counters.{signed_codes}
use Rattle.signed_words.proofs.Places.{level_of_lem, counter_in, value_is, stays}
use Rattle.signed_words.proofs.add_in_place.Goals as goal
use Rattle.signed_words.proofs.add_in_place.Goals.{After-add_to, After-counter_at-c, After-place, In_ok-bits}

in_level : (c : After-counter_at-c) → (c.counter_at-c.result.level ≤ 3) × (c.counter_at-c.result.value < cap c.counter_at-c.result.level)
unfolding cap
in_level c = let a = c.args in counter_in a.word a.merge a.slot c.counter_at-c.result c.counter_at-c.ensures (omega arith)

-- the sum, and whether the counter holds it
module _ (c : After-add_to) where
  abbrev sum : ℤ
  sum = counter_value (signed_block 3 c.args.word c.args.merge) c.args.slot +ℤ integer_of c.args.amount

  abbrev level : ℕ
  level = level_of (layout 3 c.args.merge) c.args.slot

  level_is : c.counter_at-c.result.level ≡ level
  level_is = level_of_lem c.args.word c.args.merge c.args.slot c.counter_at-c.result c.counter_at-c.ensures

  sum_is : sign_read c.counter_at-c.result.level c.counter_at-c.result.value +ℤ integer_of c.args.amount ≡ sum
  sum_is = ap (λ (x : ℤ). x +ℤ integer_of c.args.amount) (value_is c.args.word c.args.merge c.args.slot c.counter_at-c.result c.counter_at-c.ensures)

  held_sum : ltb (nat_abs (sign_read c.counter_at-c.result.level c.counter_at-c.result.value +ℤ integer_of c.args.amount)) (top c.counter_at-c.result.level) ≡ ltb (nat_abs sum) (top level)
  held_sum = ap (λ (x : ℤ). ltb (nat_abs x) (top c.counter_at-c.result.level)) sum_is ∙ ap (λ (x : ℕ). ltb (nat_abs sum) (top x)) level_is

pub add_to-requires : goal.add_to-requires
add_to-requires c =
    let r = in_level c in
    record { fact_1 = r.0; fact_2 = r.1 }

pub returns-in_err-bits-clause-held_value : goal.returns-in_err-bits-clause-held_value
returns-in_err-bits-clause-held_value c = rw c.from_residual.ensures (c.in_err-bits.ensures.held_value ∙ held_sum (goal.at.returns-in_err-bits-clause-held_value c).After-add_to)

-- where it does
module _ (f : In_ok-bits) where
  held : ltb (nat_abs (sum (goal.at.In_ok-bits f).After-add_to)) (top (level (goal.at.In_ok-bits f).After-add_to)) ≡ true
  held = sym (f.in_ok-bits.ensures.held_value ∙ held_sum (goal.at.In_ok-bits f).After-add_to)

  fits : nat_abs (sum (goal.at.In_ok-bits f).After-add_to) < top (level (goal.at.In_ok-bits f).After-add_to)
  fits = ltb-true _ _ held

  abbrev n : ℕ
  n = f.counter_at-c.result.level

  bits : f.in_ok-bits.bits ≡ sign_bits (level (goal.at.In_ok-bits f).After-add_to) (sum (goal.at.In_ok-bits f).After-add_to)
  bits = f.in_ok-bits.ensures.bits_value ∙ ap (sign_bits n) (sum_is (goal.at.In_ok-bits f).After-add_to) ∙ ap (λ (x : ℕ). sign_bits x (sum (goal.at.In_ok-bits f).After-add_to)) (level_is (goal.at.In_ok-bits f).After-add_to)

  bits_in : f.in_ok-bits.bits < cap n
  bits_in = omega (arith, bits, signed_codes.bits_lt (level (goal.at.In_ok-bits f).After-add_to) (sum (goal.at.In_ok-bits f).After-add_to) fits, ap cap (level_is (goal.at.In_ok-bits f).After-add_to))

-- the counter's place
module _ (p : After-place) where
  abbrev q : ℕ
  q = p.place.result

  word_in : p.args.word < cap 3
  unfolding cap
  word_in = omega arith

  at_level : (counter_at (block 3 p.args.word p.args.merge) p.args.slot).level ≡ n (goal.at.After-place p).In_ok-bits
  at_level = ap (λ (c : Counter). c.level) (sym p.counter_at-c.ensures)

  in_word : q + 8 * 2 ^ n (goal.at.After-place p).In_ok-bits ≤ 64
  in_word =
      let b = block 3 p.args.word p.args.merge in
      omega (arith, p.place.ensures.value, rw (first_is b p.args.slot p.requires.fact_2, at_level) at (first_in b p.args.slot))

  old_is : p.counter_at-c.result.value ≡ p.args.word / 2 ^ q % cap (n (goal.at.After-place p).In_ok-bits)
  old_is =
      ap (λ (c : Counter). c.value)
      (p.counter_at-c.ensures ∙ counter_at_lem p.args.word p.args.merge p.args.slot (n (goal.at.After-place p).In_ok-bits) q word_in p.requires.fact_2 at_level p.place.ensures.value)

pub place-requires : goal.place-requires
place-requires c = record { fact_1 = (in_level (goal.at.place-requires c).After-counter_at-c).0; fact_2 = c.requires.fact_2 }

pub exchange-requires : goal.exchange-requires
exchange-requires c = record { fact_1 = (in_level (goal.at.exchange-requires c).After-counter_at-c).0; fact_2 = in_word c; fact_3 = old_is c; fact_4 = bits_in (goal.at.exchange-requires c).In_ok-bits }

pub returns : goal.returns
returns c = let b = c.in_ok-bits.bits in
    let g = c.args in
    let new : c.exchange.result ≡ number_of (change (block 3 g.word g.merge) g.slot (sign_bits (level (goal.at.returns c).After-add_to) (sum (goal.at.returns c).After-add_to))) =
    value_put g.word g.merge g.slot (n (goal.at.returns c).In_ok-bits) (q (goal.at.returns c).After-place) (word_in (goal.at.returns c).After-place) c.requires.fact_2 (at_level (goal.at.returns c).After-place) c.place.ensures.value b b
    (sym (mod-eq_of_lt {n = b} {m = cap (n (goal.at.returns c).In_ok-bits)} (bits_in (goal.at.returns c).In_ok-bits))) c.exchange.result c.exchange.ensures
    ∙ ap (λ (x : ℕ). number_of (change (block 3 g.word g.merge) g.slot x)) (bits (goal.at.returns c).In_ok-bits) in record { held_value = sym (held (goal.at.returns c).In_ok-bits); stays = rw new (stays g.word g.merge g.slot (integer_of g.amount) (word_in (goal.at.returns c).After-place) c.requires.fact_1 c.requires.fact_3 (fits (goal.at.returns c).In_ok-bits)) }
