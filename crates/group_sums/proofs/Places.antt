-- A counter's place in a group's count bytes, taken as one number; an addition that the counter holds, and another value in it.
use Rattle.std.proofs.Common.{Ok}
use mathlib.Core.Path.{◌≡◌, sym, ap, ◌∙◌}
use mathlib.Core.Bool.{true}
use Prim.Native.Nat.{ℕ, ◌+◌, ◌-◌, ◌*◌, ◌/◌, ◌%◌, ◌^◌, ◌<◌}
use native.Mathlib.Omega.{arith}
use native.Mathlib.Decide.{dec_lt}
use borrow.Author.Tests.{ne_eqb, lt-ltb, le-ltb, le-leb, lt-leb}
use lib.Dec.{leb, ltb}
use lib.Bits.{bit_and, bit_or, and_mask, or_shr, or_step}
use Rattle.group_layout.specs.Layout.{bit, layout, valid, level_of}
use Rattle.group_layout.specs.Merged.{is_merged}
use Rattle.group_layout.proofs.Laws.{own_bit_lem}
use Rattle.group_block.specs.Kind.{Kind}
use Rattle.group_block.specs.Block.{cap, number_of, block, counter_at, total, block_as}
use Rattle.group_block.specs.Change.{change}
use Rattle.group_block.specs.Sum.{add}
use Rattle.group_block.specs.Passed.{summed, summed_as}
use Rattle.group_block.proofs.Adding.{Sound}
use Rattle.group_block.specs.Figure.{Coded, ordinary_coded}
use Rattle.group_block.proofs.Laws.{word_lt, shape_fill_of, word_block, marks_block, block_fits, block_fits_of}
use Rattle.group_block.proofs.Adding.{add_sound}
use Rattle.group_slots.proofs.Changing.{change_fits}
use Rattle.group_slots.proofs.Slots.{level_block, halves_sum}
use Rattle.group_slots.proofs.Places.{first, first_is, value_is, InPlace, add_in_place, change_word}

-- the level that the layout has for a slot
pub has_level : (w m k : ℕ) {r : ℕ} → r ≡ level_of (layout 3 m) k → (counter_at (block 3 w m) k).level ≡ r
has_level w m k e = level_block 3 w m k ∙ sym e

-- the counter of a slot, by its level L and its place q
module _ (w m k L q : ℕ) (h : w < cap 3) (i : k < 8) (e : (counter_at (block 3 w m) k).level ≡ L) (q-is : q ≡ 8 * (k / 2 ^ L * 2 ^ L)) where
  place_is : 8 * first (block 3 w m) k ≡ q
  place_is = rw (first_is (block 3 w m) k i, e, q-is)

  value_place : (counter_at (block 3 w m) k).value ≡ w / 2 ^ q % cap L
  value_place = sym (rw (word_block 3 w m h, place_is, e) at (value_is (block 3 w m) k (block_fits 3 w m h)))

  pub counter_at_lem : counter_at (block 3 w m) k ≡ record { value = w / 2 ^ q % cap L; level = L }
  counter_at_lem = rw (← value_place, ← e)

  -- an addition that the counter holds
  module _ (a : ℕ) (small : w / 2 ^ q % cap L + a < cap L) where
    stays : InPlace (block 3 w m) k a
    stays = add_in_place (block 3 w m) k a (rw (value_place, e) small)

    word_is : number_of stays.0 ≡ w + a * 2 ^ q
    word_is = stays.3 ∙ rw (word_block 3 w m h, place_is)

    pub sum_in : w + a * 2 ^ q < 2 ^ 64
    unfolding Sound cap
    sum_in = rw (← word_is) (word_lt stays.0 (rw stays.1 at (add_sound (block 3 w m) k a (block_fits 3 w m h))))

    pub in_place_is : valid 3 m ≡ true → Ok (record { word = w + a * 2 ^ q; merge = m }) ≡ summed (add (block 3 w m) k a)
    unfolding summed_as
    in_place_is v = rw (stays.1, word_is, stays.2, marks_block 3 w m v)

  -- another value in the counter
  module _ (x n : ℕ) (n-is : n ≡ x % cap L) where
    abbrev t : ℕ
    t = number_of (change (block 3 w m) k x)

    new_word : t + w / 2 ^ q % cap L * 2 ^ q ≡ w + n * 2 ^ q
    new_word = rw n-is (rw (value_place, place_is, e, word_block 3 w m h) at (change_word (block 3 w m) k x))

    pub value_in : w + n * 2 ^ q < 2 ^ 64 + w / 2 ^ q % cap L * 2 ^ q
    unfolding cap
    value_in = omega (arith, new_word, word_lt (change (block 3 w m) k x) (change_fits (block 3 w m) k x (block_fits 3 w m h)))

    pub value_put : (r : ℕ) → r + w / 2 ^ q % cap L * 2 ^ q ≡ w + n * 2 ^ q → r ≡ t
    value_put r f = omega (arith, new_word)

-- a group whose own bit is clear has two halves
pub bit_total_of : {K : Kind} {F : Type 0} {means : F → K.Value} {made : K.Value → F} (D : Coded K means made) (w m : ℕ) → w < cap 3 → m / 8 % 2 ≡ 0 → K.size (total (block_as K 3 w m)) < K.bound 2 + K.bound 2
unfolding block_as bit
bit_total_of {K} D w m h z =
    halves_sum D.sums (block_as K 3 w m) (block_fits_of D.codes 3 w m h)
    (ap is_merged (shape_fill_of K (layout 3 m) w) ∙ own_bit_lem 3 m (omega arith) ∙ ne_eqb (m / 8 % 2) 1 (λ e. omega arith))

pub bit_total : (w m : ℕ) → w < cap 3 → m / 8 % 2 ≡ 0 → total (block 3 w m) < 2 ^ 33
unfolding cap
bit_total w m h z = bit_total_of ordinary_coded w m h z

pub both_clear : (m n : ℕ) → bit_and (bit_or m n / 8) 1 ≡ 0 → (m / 8 % 2 ≡ 0) × (n / 8 % 2 ≡ 0)
both_clear m n z =
    let e : bit_or (m / 8) (n / 8) % 2 ≡ 0 = sym (and_mask (bit_or (m / 8) (n / 8)) 1) ∙ rw (← or_shr m n 3) z in
    (omega (arith, or_step (m / 8) (n / 8)), omega (arith, or_step (m / 8) (n / 8)))

pub room_test : (a b : ℕ) → a < 2 ^ 64 → leb b (2 ^ 64 - 1 - a) ≡ ltb (a + b) (2 ^ 64)
room_test a b h = elim (dec_lt (a + b) (2 ^ 64)) [
  | yes l ↦ le-leb b (2 ^ 64 - 1 - a) (omega arith) ∙ sym (lt-ltb (a + b) (2 ^ 64) l)
  | no l ↦ lt-leb b (2 ^ 64 - 1 - a) (omega arith) ∙ sym (le-ltb (a + b) (2 ^ 64) (omega arith))
]
