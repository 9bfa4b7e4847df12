-- Laws of groups: encoding, and what the code's additions and unions come to.
use Rattle.std.proofs.Common.{Result, Ok, Err, IsOk}
use mathlib.Core.Path.{◌≡◌, refl, sym, ap, ◌∙◌}
use mathlib.Core.Bool.{Bool, true, false, cond, ◌&&◌, and-eq-true_iff}
use Prim.Native.Nat.{ℕ, ◌+◌, ◌%◌, ◌^◌, ◌≤◌, ◌<◌}
use mathlib.Core.List.{List}
use native.Mathlib.Decide.{dec_lt}
use native.Mathlib.Omega.{arith}
use borrow.Author.Tests.{ltb-true, ltb-false}
use lib.Dec.{ltb}
use lib.ListN.{length}
use Rattle.little_endian.specs.Bytes.{number}
use Rattle.laws.proofs.Lists.{Bytes}
use Rattle.little_endian.proofs.Bytes.{number_lt, number_bytes, bytes_number}
use Rattle.group_layout.specs.Layout.{layout, valid}
use Rattle.group_layout.proofs.Laws.{valid_marks}
use Rattle.group_block.specs.declared.Packed.{Packed}
use Rattle.group_block.specs.Kind.{Kind}
use Rattle.group_block.specs.Block.{BlockOf, Block, cap, Fits, shape, number_of, all_clean, block_as, block, counter_at, total}
use Rattle.group_block.specs.Sum.{SumOf, Sum, fits, over, add, unite, sum_total}
use Rattle.group_block.specs.Passed.{summed, summed_as}
use Rattle.group_block.proofs.Sums.{Sums, ordinary_sums}
use Rattle.group_block.proofs.Codes.{Codes, ordinary_codes}
use Rattle.group_block.proofs.Adding.{Sound, total_size}
use Rattle.group_block.proofs.Laws.{all_clean_lem, word_lt_of, word_block, word_block_of, marks_block, marks_block_of, block_is_of, block_fits}
use Rattle.group_block.proofs.Adding.{add_total, add_sound, unite_total, unite_sound}
use Rattle.group_slots.proofs.Places.{add_in_place}
use Rattle.group.specs.declared.Group.{Group}
use Rattle.group.specs.Results.{Outcome}
use Rattle.group.specs.Group.{decode, encode, settle, unchanged, reading, read, added, holds, united_groups}
use Rattle.group.specs.Stored.{stored}
use Rattle.answer.specs.Numbers.{invalid_content, counter_full}

-- a counter of level 3 holds 64 bits
pub cap_three : cap 3 ≡ 2 ^ 64
unfolding cap
cap_three = refl

-- eight bytes
pub record Eight (xs : List ℕ) : Type 0 where
  pub long : length xs ≡ 8
  pub small : Bytes xs

pub number_in : (xs : List ℕ) → Eight xs → number xs < cap 3
unfolding cap
number_in xs e = rw e.long at (number_lt xs e.small)

-- Encoding and decoding are inverse: a valid group whose counters' bits are those of values is the encoding of one block, and a block
-- whose counters hold their values is what its encoding stands for. For any kind of counter, and for the ordinary one.
pub encode_decode_of : {K : Kind} (C : Codes K) (g : Group) → Eight g.counts → valid 3 g.merge ≡ true → all_clean K (layout 3 g.merge) (number g.counts) ≡ true
    → encode (block_as K 3 (number g.counts) g.merge) ≡ g
unfolding encode
encode_decode_of {K} C g e v c =
    rw (word_block_of C 3 (number g.counts) g.merge (number_in g.counts e) c, marks_block_of K 3 (number g.counts) g.merge v, ← e.long)
    (ap (λ (l : List ℕ). record { counts = l; merge = g.merge }) (bytes_number g.counts e.small))

pub encode_decode : (g : Group) → Eight g.counts → valid 3 g.merge ≡ true → encode (decode g) ≡ g
unfolding decode
encode_decode g e v = encode_decode_of ordinary_codes g e v (all_clean_lem (layout 3 g.merge) (number g.counts))

pub number_encode : {K : Kind} (C : Codes K) (b : BlockOf K 3) → Fits b → number (encode b).counts ≡ number_of b
unfolding encode cap
number_encode C b f = number_bytes 8 (number_of b) (word_lt_of C b f)

pub decode_encode_of : {K : Kind} (C : Codes K) (b : BlockOf K 3) → Fits b → block_as K 3 (number (encode b).counts) (encode b).merge ≡ b
unfolding encode
decode_encode_of C b f = rw (number_encode C b f) (block_is_of C b f)

pub decode_encode : (b : Block 3) → Fits b → decode (encode b) ≡ b
unfolding decode
decode_encode b f = decode_encode_of ordinary_codes b f

pub encode_valid : {K : Kind} (b : BlockOf K 3) → valid 3 (encode b).merge ≡ true
unfolding encode
encode_valid b = valid_marks (shape b)

-- the block that was passed, or another
abbrev passed_or : {F : Type 0} → Packed → Result Packed F → Packed
passed_or q (Ok p) = p
passed_or q (Err s) = q

-- the code's answer, by what an addition or a union left
module _ {K : Kind} {F : Type 0} (made : K.Value → F) (g : Group) where
  pub settle_stored : (x : SumOf K 3) (p : Packed) → Ok p ≡ summed_as K made x → stored p ≡ settle g x
  unfolding settle stored summed_as encode
  settle_stored (fits b) p e = ap (λ (r : Result Packed F). stored (passed_or p r)) e
  settle_stored (over s) p e = cc

  pub settle_past : (x : SumOf K 3) (s : F) → Err s ≡ summed_as K made x → unchanged counter_full g ≡ settle g x
  unfolding settle summed_as
  settle_past (fits b) s e = cc
  settle_past (over t) s e = refl

-- by the sum's total
pub passed_ok : {K : Kind} {F : Type 0} (made : K.Value → F) (x : SumOf K 3) → Sound x → K.size (sum_total x) < K.bound 3 → IsOk (summed_as K made x)
unfolding summed_as Sound sum_total
passed_ok made (fits b) f h = refl
passed_ok made (over s) f h = absurd (omega arith)

pub settle_accepted : {K : Kind} (g : Group) (x : SumOf K 3) → Sound x → K.size (sum_total x) < K.bound 3 → (settle g x).status ≡ 0
unfolding settle Sound sum_total
settle_accepted g (fits b) f h = refl
settle_accepted g (over s) f h = absurd (omega arith)

pub settle_full : {K : Kind} (S : Sums K) (g : Group) (x : SumOf K 3) → Sound x → K.bound 3 ≤ K.size (sum_total x) → settle g x ≡ unchanged counter_full g
unfolding settle Sound sum_total
settle_full S g (fits b) f h = absurd (omega (arith, total_size S b f))
settle_full S g (over s) f h = refl

pub settle_over : (g : Group) (x : Sum 3) → Sound x → 2 ^ 64 ≤ sum_total x → settle g x ≡ unchanged counter_full g
unfolding cap
settle_over g x f h = settle_full ordinary_sums g x f h

module _ (g : Group) (slot amount : ℕ) where
  pub added_invalid : valid 3 g.merge ≡ false → added g slot amount ≡ unchanged invalid_content g
  unfolding added
  added_invalid v = rw v

  module _ (h : number g.counts < cap 3) (v : valid 3 g.merge ≡ true) where
    add_is_sound : Sound (add (decode g) (slot % 8) amount)
    unfolding decode
    add_is_sound = add_sound (decode g) (slot % 8) amount (block_fits 3 (number g.counts) g.merge h)

    pub added_full : 2 ^ 64 ≤ total (decode g) + amount → added g slot amount ≡ unchanged counter_full g
    unfolding added
    added_full k = rw v (settle_over g (add (decode g) (slot % 8) amount) add_is_sound (omega (arith, add_total (decode g) (slot % 8) amount)))

  pub added_stored : (p : Packed) → valid 3 g.merge ≡ true → Ok p ≡ summed (add (decode g) (slot % 8) amount) → stored p ≡ added g slot amount
  unfolding added
  added_stored p v e = rw v (settle_stored (λ (n : ℕ). n) g (add (decode g) (slot % 8) amount) p e)

  -- whether the counter holds the sum, by the group's validity
  pub holds_invalid : valid 3 g.merge ≡ false → holds g slot amount ≡ false
  unfolding holds
  holds_invalid v = rw v

  pub holds_valid : valid 3 g.merge ≡ true
      → holds g slot amount ≡ ltb ((counter_at (decode g) (slot % 8)).value + amount) (cap (counter_at (decode g) (slot % 8)).level)
  unfolding holds
  holds_valid v = rw v

  pub not_held : valid 3 g.merge ≡ true → holds g slot amount ≡ false → cap (counter_at (decode g) (slot % 8)).level ≤ (counter_at (decode g) (slot % 8)).value + amount
  not_held v h = ltb-false _ _ (sym (holds_valid v) ∙ h)

  -- where it does, the addition is accepted and the layout stays
  pub added_held : holds g slot amount ≡ true → added g slot amount ≡ record { status = 0; group = record { counts = (added g slot amount).group.counts; merge = g.merge } }
  unfolding holds added settle encode decode
  added_held h =
      let v = (and-eq-true_iff (valid 3 g.merge) _).0 h in
      let s = add_in_place (decode g) (slot % 8) amount (ltb-true _ _ v.1) in
      rw (v.0, s.1, s.2, marks_block 3 (number g.counts) g.merge v.0)

  -- and the counter has the amount more
  pub read_held : number g.counts < cap 3 → holds g slot amount ≡ true → (read (added g slot amount).group slot).value ≡ (counter_at (decode g) (slot % 8)).value + amount
  unfolding holds added settle read reading Sound
  read_held w h =
      let v = (and-eq-true_iff (valid 3 g.merge) _).0 h in
      let s = add_in_place (decode g) (slot % 8) amount (ltb-true _ _ v.1) in
      rw (v.0, s.1, encode_valid s.0, decode_encode s.0 (rw s.1 at (add_is_sound w v.0)), s.4)

module _ (g source : Group) where
  pub united_invalid : valid 3 g.merge ≡ false → united_groups g source ≡ unchanged invalid_content g
  unfolding united_groups
  united_invalid v = rw v

  pub united_source_invalid : valid 3 g.merge ≡ true → valid 3 source.merge ≡ false → united_groups g source ≡ unchanged invalid_content g
  unfolding united_groups
  united_source_invalid v w = rw (v, w)

  -- a union that leaves the target's layout
  pub united_fits : (w : ℕ) → w < cap 3 → valid 3 g.merge ≡ true → valid 3 source.merge ≡ true
      → unite (decode g) (decode source) ≡ fits (block 3 w g.merge)
      → stored (record { word = w; merge = g.merge }) ≡ united_groups g source
  unfolding united_groups settle stored encode
  united_fits w h v v' e = rw (v, v', e, word_block 3 w g.merge h, marks_block 3 w g.merge v)

  module _ (h : number g.counts < cap 3) (k : number source.counts < cap 3) (v : valid 3 g.merge ≡ true) (w : valid 3 source.merge ≡ true) where
    unite_is_sound : Sound (unite (decode g) (decode source))
    unfolding decode
    unite_is_sound =
        unite_sound (decode g) (decode source) (block_fits 3 (number g.counts) g.merge h) (block_fits 3 (number source.counts) source.merge k)

    pub united_full : 2 ^ 64 ≤ total (decode g) + total (decode source) → united_groups g source ≡ unchanged counter_full g
    unfolding united_groups
    united_full k = rw (v, w) (settle_over g (unite (decode g) (decode source)) unite_is_sound (omega (arith, unite_total (decode g) (decode source))))

    pub united_stored : (p : Packed) → Ok p ≡ summed (unite (decode g) (decode source)) → stored p ≡ united_groups g source
    unfolding united_groups
    united_stored p e = rw (v, w) (settle_stored (λ (n : ℕ). n) g (unite (decode g) (decode source)) p e)

    module _ (s : total (decode g) + total (decode source) < 2 ^ 64) where
      pub united_ok : IsOk (summed (unite (decode g) (decode source)))
      unfolding cap
      united_ok = passed_ok (λ (n : ℕ). n) (unite (decode g) (decode source)) unite_is_sound (omega (arith, unite_total (decode g) (decode source)))

      pub united_status : (united_groups g source).status ≡ 0
      unfolding united_groups cap
      united_status = rw (v, w) (settle_accepted g (unite (decode g) (decode source)) unite_is_sound (omega (arith, unite_total (decode g) (decode source))))

  -- by its status alone a union is refused, or both groups are valid and one counter would hold all their counters
  pub united_refused : ((united_groups g source).status ≡ 0 → ⊥) → united_groups g source ≡ unchanged (united_groups g source).status g
  unfolding united_groups settle
  united_refused = go (valid 3 g.merge && valid 3 source.merge) (unite (decode g) (decode source))
    where
      go : (t : Bool) (x : Sum 3) → ((cond t (settle g x) (unchanged invalid_content g)).status ≡ 0 → ⊥)
          → cond t (settle g x) (unchanged invalid_content g) ≡ unchanged (cond t (settle g x) (unchanged invalid_content g)).status g
      go true (fits b) n = absurd (n refl)
      go true (over s) n = refl
      go false x n = refl

  both_valid : (united_groups g source).status ≡ 0 → (valid 3 g.merge && valid 3 source.merge) ≡ true
  unfolding united_groups
  both_valid = go (valid 3 g.merge && valid 3 source.merge)
    where
      go : (t : Bool) → (cond t (settle g (unite (decode g) (decode source))) (unchanged invalid_content g)).status ≡ 0 → t ≡ true
      go true e = refl
      go false e = absurd (omega arith)

  pub united_taken : number g.counts < cap 3 → number source.counts < cap 3 → (united_groups g source).status ≡ 0
      → (valid 3 g.merge ≡ true) × (valid 3 source.merge ≡ true) × (total (decode g) + total (decode source) < 2 ^ 64)
  united_taken h k e =
      let v = (and-eq-true_iff (valid 3 g.merge) (valid 3 source.merge)).0 (both_valid e) in
      elim (dec_lt (total (decode g) + total (decode source)) (2 ^ 64)) [
        | yes l ↦ (v.0, v.1, l)
        | no l ↦ absurd (omega (arith, sym e ∙ ap (λ (o : Outcome). o.status) (united_full h k v.0 v.1 (omega arith))))
      ]
