use mathlib.Core.Path.{◌≡◌, sym, ap, ◌∙◌}
use Prim.Native.Nat.{ℕ, ◌-◌, ◌^◌, ◌≤◌, ◌<◌}
use native.Mathlib.Omega.{arith}
use borrow.Author.Tests.{lt-ltb, le-ltb}
use lib.IntN.{ℤ, ◌+ℤ◌, nat_abs}
use Rattle.group_block.specs.Block.{cap}
use Rattle.signed_number.specs.Number.{integer_of}
use Rattle.signed_number.proofs.Raised.{Raised}
use Rattle.signed_block.specs.Signed.{top, sign_read}
use Rattle.signed_block.proofs.Counters.{top_twice, top_most}
use Rattle.signed_words.specs.Words as words
use Rattle.signed_words.proofs.Raising.{raised_is, holds, lowered_is, moved_is, no_room, room_more}
use Rattle.signed_words.proofs.add_to.Goals as goal
use Rattle.signed_words.proofs.add_to.Goals.{After-moved, After-raised-before, After-room, Else-room-amount}

-- the raised value
module _ (c : After-raised-before) where
  abbrev n : ℕ
  n = c.args.level

  abbrev v : ℤ
  v = sign_read n c.args.bits

  abbrev sum : ℤ
  sum = v +ℤ integer_of c.args.amount

  raised_value : c.raised-before.result ≡ words.raised (top n) c.args.bits
  raised_value = c.raised-before.ensures ∙ ap (λ (t : ℕ). words.raised t c.args.bits) c.top-sign.ensures

  is : Raised (top n) c.raised-before.result v × (0 < c.raised-before.result) × (c.raised-before.result < cap n)
  is = raised_is n c.args.bits c.raised-before.result c.requires.fact_2 raised_value

-- the room for the amount
module _ (c : After-room) where
  room_is : c.room.result ≡ words.room c.raised-before.result (cap (n (goal.at.After-room c).After-raised-before) - 1) c.args.amount.minus
  room_is = c.room.ensures ∙ ap (λ (m : ℕ). words.room c.raised-before.result m c.args.amount.minus) c.most.ensures

pub raised-before-requires : goal.raised-before-requires
raised-before-requires c = record { fact_1 = omega (arith, c.top-sign.ensures, top_twice c.args.level, c.requires.fact_2); fact_2 = omega (arith, c.top-sign.ensures, top_most c.args.level c.requires.fact_1) }

pub room-requires : goal.room-requires
room-requires c = record { fact_1 = (is (goal.at.room-requires c).After-raised-before).1; fact_2 = omega (arith, (is (goal.at.room-requires c).After-raised-before).2, c.most.ensures) }

pub returns-then-room-amount : goal.returns-then-room-amount
returns-then-room-amount c = let a = c.args.amount in
    let r = is (goal.at.returns-then-room-amount c).After-raised-before in
    let over = no_room (n (goal.at.returns-then-room-amount c).After-raised-before) c.raised-before.result (v (goal.at.returns-then-room-amount c).After-raised-before) r.0 r.1 r.2 a.minus a.magnitude (rw (room_is (goal.at.returns-then-room-amount c).After-room) at c.if-room-amount.true) in record { held_value = sym (le-ltb (nat_abs (sum (goal.at.returns-then-room-amount c).After-raised-before)) (top (n (goal.at.returns-then-room-amount c).After-raised-before)) over); bits_value = tt }

-- the sum
module _ (c : Else-room-amount) where
  enough : c.args.amount.magnitude ≤ words.room c.raised-before.result (cap (n (goal.at.Else-room-amount c).After-raised-before) - 1) c.args.amount.minus
  enough = rw (room_is (goal.at.Else-room-amount c).After-room) at c.if-room-amount.false

  small : cap (n (goal.at.Else-room-amount c).After-raised-before) ≤ 2 ^ 64
  small = omega (arith, top_twice (n (goal.at.Else-room-amount c).After-raised-before), top_most (n (goal.at.Else-room-amount c).After-raised-before) c.requires.fact_1)

pub moved-requires : goal.moved-requires
moved-requires c = let a = c.args.amount in
    let more = room_more c.raised-before.result (cap (n (goal.at.moved-requires c).After-raised-before) - 1) (2 ^ 64 - 1) a.minus (omega (arith, small c)) in
    omega (arith, enough c, more)

-- it is the sum of the raised value and the amount
module _ (c : After-moved) where
  moved : Raised (top (n (goal.at.After-moved c).After-raised-before)) c.moved.result (sum (goal.at.After-moved c).After-raised-before) × (0 < c.moved.result) × (c.moved.result < cap (n (goal.at.After-moved c).After-raised-before))
  moved = let r = is (goal.at.After-moved c).After-raised-before in
      let a = c.args.amount in
      moved_is (n (goal.at.After-moved c).After-raised-before) c.raised-before.result (v (goal.at.After-moved c).After-raised-before) r.0 r.1 r.2 a.minus a.magnitude c.moved.result (enough (goal.at.After-moved c).Else-room-amount) c.moved.ensures

pub lowered-requires : goal.lowered-requires
lowered-requires c = record { fact_1 = (moved c).1; fact_2 = omega (arith, c.top-sign.ensures, top_most (n (goal.at.lowered-requires c).After-raised-before) c.requires.fact_1) }

pub returns : goal.returns
returns c = let r = moved (goal.at.returns c).After-moved in record {
  held_value = sym (lt-ltb (nat_abs (sum (goal.at.returns c).After-raised-before)) (top (n (goal.at.returns c).After-raised-before)) (holds (n (goal.at.returns c).After-raised-before) c.moved.result (sum (goal.at.returns c).After-raised-before) r.0 r.1 r.2));
  bits_value =
      c.lowered.ensures
      ∙ ap (λ (t : ℕ). words.lowered t c.moved.result) c.top-sign.ensures
      ∙ lowered_is (n (goal.at.returns c).After-raised-before) c.moved.result (sum (goal.at.returns c).After-raised-before) r.0;
}
