-- A signed group whose counters hold totals: what its calls answer and leave.
use mathlib.Core.Path.{◌≡◌, refl, sym, ap, subst, ◌∙◌}
use mathlib.Core.Bool.{Bool, true}
use Prim.Native.Nat.{ℕ, ◌/◌, ◌%◌, ◌^◌, ◌≤◌, ◌<◌}
use borrow.Author.Tests.{eq-eqb, lt-ltb}
use lib.ListN.{replicate}
use lib.IntN.{ℤ, pos, ◌+ℤ◌}
use Rattle.little_endian.specs.Bytes.{number, bytes}
use Rattle.group_layout.specs.Layout.{layout, level_of, marks, ones, bit}
use Rattle.group_layout.proofs.Laws.{layout_marks}
use Rattle.group_block.specs.Block.{BlockOf, cap, Fits, shape, number_of, fill, block_as}
use Rattle.group_block.specs.Sum.{SumOf, add, unite}
use Rattle.group_block.proofs.Laws.{word_lt_of, block_fits_of, cap_pos}
use Rattle.group_block_laws.specs.Counts.{Totals, Adds, Counts, SumCounts, Grows}
use Rattle.group_block_laws.proofs.Counting.{clear_counts, Plus, off_counts, add_counts, unite_counts, value_counts, add_grows, unite_grows, inside_level}
use Rattle.group_block_laws.proofs.Least.{unite_stays_of}
use Rattle.answer.specs.Order.{earlier}
use Rattle.group.specs.declared.Group.{Group}
use Rattle.group.specs.Results.{Outcome}
use Rattle.group.specs.Group.{encode, settle}
use Rattle.group.proofs.Laws.{number_encode}
use Rattle.signed_number.specs.Number.{times_sign, signed_of}
use Rattle.signed_block.specs.Signed.{top, sign_bits, sign_read, signed, times_block}
use Rattle.signed_block.proofs.Counters.{top_pos, signed_codes, signed_sums}
use Rattle.signed_group.specs.Group.{decode, bad_group, bad_pair, read, added, combined}
use Rattle.signed_group.proofs.Laws.{decode_encode, encode_good, combined_settled}
use Rattle.signed_group.proofs.Outcomes.{Left, added_accepted, combined_accepted}
use Rattle.signed_totals.proofs.Times.{times_adds, times_counts, suits_itself}

-- Group g of a row holds totals: it is the encoding of a block whose counters hold their values, and these are the totals.
pub record Holds (t : Totals signed) (g : ℕ) (x : Group) : Type 0 where
  pub block : BlockOf signed 3
  pub sound : Fits block
  pub counts : Counts t g block
  pub is : x ≡ encode block

module _ {t : Totals signed} {g : ℕ} {x : Group} (h : Holds t g x) where
  -- it is refused by no line, and stands for the block
  good : bad_group x ≡ 0
  good = ap bad_group h.is ∙ encode_good h.block h.sound

  decode_is : decode x ≡ h.block
  decode_is = ap decode h.is ∙ decode_encode h.block h.sound

  layout_is : layout 3 x.merge ≡ shape h.block
  unfolding encode
  layout_is = ap (λ (y : Group). layout 3 y.merge) h.is ∙ layout_marks (shape h.block)

  number_in : number x.counts < cap 3
  number_in = rw (h.is, number_encode signed_codes h.block h.sound) (word_lt_of signed_codes h.block h.sound)

  -- what a slot reads: its counter's level, and the total of the block of that level that the slot is in
  pub level_is : (slot : ℕ) → (read x slot).level ≡ level_of (layout 3 x.merge) (slot % 8)
  unfolding read
  level_is slot = rw (eq-eqb (bad_group x) 0 good)

  pub read_is : (slot : ℕ) → slot / 8 ≡ g
      → read x slot ≡ record { status = 0; value = signed_of (t (read x slot).level (slot / 2 ^ (read x slot).level)); level = (read x slot).level }
  unfolding read
  read_is slot e =
      rw (eq-eqb (bad_group x) 0 good, decode_is, layout_is)
      (ap (λ (v : ℤ). record { status = 0; value = signed_of v; level = level_of (shape h.block) (slot % 8) })
      (value_counts signed t g slot h.block e h.counts))

-- a cleared group holds totals of nothing
read_zero : (n : ℕ) → sign_read n 0 ≡ pos 0
unfolding sign_read
read_zero n = rw (lt-ltb 0 (top n) (top_pos n))

cleared : record { counts = replicate 8 0; merge = 0 } ≡ encode (block_as signed 3 0 0)
unfolding encode bytes number_of sign_bits shape marks ones fill sign_read layout bit cap top block_as
cleared = refl

pub clear_holds : (g : ℕ) → Holds (λ n i. pos 0) g (record { counts = replicate 8 0; merge = 0 })
unfolding block_as
clear_holds g =
    record {
      block = block_as signed 3 0 0;
      sound = block_fits_of signed_codes 3 0 0 (cap_pos 3);
      counts = clear_counts signed (pos 0) read_zero g (layout 3 0);
      is = cleared;
    }

-- What an accepted call leaves of a group that holds totals: one that holds others, with no slot's level lower.
pub record Next (t : Totals signed) (g : ℕ) (x y : Group) : Type 0 where
  pub holds : Holds t g y
  pub grows : (slot : ℕ) → (read x slot).level ≤ (read y slot).level

next : {t t' : Totals signed} {g : ℕ} {x y : Group} (h : Holds t g x) (z : SumOf signed 3)
    → Left z y → SumCounts t' g z → Grows (shape h.block) z → Next t' g x y
unfolding SumCounts Grows
next {t} {t'} {g} {x} {y} h z l c i =
    let now : Holds t' g y = record { block = l.block; sound = l.holds; counts = subst (SumCounts t' g) l.sum_is c; is = l.group_is } in
    record {
      holds = now;
      grows = λ slot.
          rw (level_is h slot, level_is now slot, layout_is h, layout_is now)
          (inside_level (shape h.block) (shape l.block) (slot % 8) (subst (Grows (shape h.block)) l.sum_is i));
    }

-- an amount more at a slot
module _ (t t' : Totals signed) (s : ℕ) (a : ℤ) (p : Plus signed t t' s a) where
  pub added_next : Adds signed t' → {x : Group} → Holds t (s / 8) x → (added x s a).status ≡ 0 → Next t' (s / 8) x (added x s a).group
  added_next adds {x} h e =
      next h (add h.block (s % 8) a)
      (subst (λ (b : BlockOf signed 3). Left (add b (s % 8) a) (added x s a).group) (decode_is h) (added_accepted x s a (number_in h) e).1)
      (add_counts signed t t' s a p adds (s / 8) h.block refl h.counts)
      (add_grows h.block (s % 8) a)

  -- a group that the slot is not in
  pub off_holds : {g : ℕ} {x : Group} → (s / 8 ≡ g → ⊥) → Holds t g x → Holds t' g x
  off_holds {g} e h = record { block = h.block; sound = h.sound; counts = off_counts signed t t' s a p g h.block e h.counts; is = h.is }

-- a source times a sign, united with a target
pub combined_next : (minus : Bool) (t u v : Totals signed) → Adds signed t → Adds signed u → Adds signed v → ((n i : ℕ) → v n i ≡ t n i +ℤ times_sign minus (u n i))
    → {g : ℕ} {x y : Group} → Holds t g x → Holds u g y → (combined minus x y).status ≡ 0 → Next v g x (combined minus x y).group
combined_next minus t u v at au av sum {g} {x} {y} h k e =
    let times : Totals signed = λ n i. times_sign minus (u n i) in
    let left : Left (unite (decode x) (times_block minus (decode y))) (combined minus x y).group = (combined_accepted minus x y (number_in h) (number_in k) e).1 in
    next h (unite h.block (times_block minus k.block)) (rw (decode_is h, decode_is k) at left)
    (unite_counts signed t times v sum at (times_adds minus u times (λ n i. refl) au) av g h.block (times_block minus k.block) h.counts
    (times_counts minus u times (λ n i. refl) g k.block k.counts))
    (unite_grows h.block (times_block minus k.block)).0

-- a group taken away from itself: accepted, and the layout stays
pub itself : {t : Totals signed} {g : ℕ} {x : Group} → Holds t g x
    → ((combined true x x).status ≡ 0) × ((combined true x x).group.merge ≡ x.merge)
unfolding settle encode bad_pair earlier
itself {x = x} h =
    let stays = unite_stays_of signed_sums h.block (times_block true h.block) (suits_itself h.block) in
    let two : bad_pair x x ≡ 0 = rw (good h) in
    let done : combined true x x ≡ record { status = 0; group = encode stays.0 } =
    combined_settled true x x two ∙ rw (decode_is h, stays.1) in
    let merge : marks (shape stays.0) ≡ x.merge = ap marks stays.2 ∙ ap (λ (y : Group). y.merge) (sym h.is) in
    (ap (λ (o : Outcome). o.status) done, ap (λ (o : Outcome). o.group.merge) done ∙ merge)
