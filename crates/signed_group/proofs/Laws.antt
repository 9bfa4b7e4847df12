-- Laws of signed groups: which are refused, encoding, and what the code's additions and unions come to.
use Rattle.std.proofs.Common.{Ok, Err}
use mathlib.Core.Path.{◌≡◌, refl, ap, ◌∙◌}
use mathlib.Core.Bool.{Bool, true, false}
use Prim.Native.Nat.{ℕ, ◌%◌, ◌≤◌, ◌<◌}
use native.Mathlib.Omega.{arith}
use borrow.Author.Tests.{eq-eqb, ne_eqb}
use lib.IntN.{ℤ, ◌+ℤ◌, nat_abs}
use Rattle.little_endian.specs.Bytes.{number}
use Rattle.group_layout.specs.Layout.{ones, layout, valid}
use Rattle.group_layout.proofs.Laws.{layout_marks}
use Rattle.group_block.specs.Block.{BlockOf, cap, Fits, shape, all_clean, total}
use Rattle.group_block.specs.declared.Packed.{Packed}
use Rattle.group_block.specs.Sum.{SumOf, add, unite, sum_total}
use Rattle.group_block.proofs.Adding.{Sound, unite_sound, unite_total_of}
use Rattle.group_block.proofs.Laws.{word_clean, block_fits_of}
use Rattle.answer.specs.Numbers.{invalid_content, counter_full, minus_zero}
use Rattle.answer.specs.Order.{first_of, unless}
use Rattle.answer.proofs.Order.{earlier_none, none_earlier, none_first}
use Rattle.group.specs.declared.Group.{Group}
use Rattle.group.specs.Results.{Outcome}
use Rattle.group.specs.Group.{encode, unchanged, settle}
use Rattle.group.specs.Stored.{stored}
use Rattle.group.proofs.Laws.{decode_encode_of, encode_valid, number_encode, settle_stored, settle_past, settle_accepted, settle_full}
use Rattle.signed_number.specs.declared.Signed.{Signed}
use Rattle.signed_number.specs.Number.{times_sign, signed_of}
use Rattle.signed_block.specs.Signed.{top, signed, times_block}
use Rattle.signed_block.specs.Passed.{signed_summed}
use Rattle.signed_block.proofs.Counters.{signed_codes, signed_sums}
use Rattle.signed_block.proofs.Times.{times_fits, times_total}
use Rattle.signed_group.specs.Group.{decode, bad_group, bad_pair, added, combined}

-- a merge byte that is valid, and counters none of which is minus zero
pub record Clean (g : Group) : Type 0 where
  pub merges : valid 3 g.merge ≡ true
  pub counters : all_clean signed (layout 3 g.merge) (number g.counts) ≡ true

holds_of : (t : Bool) (s : ℕ) → (s ≡ 0 → ⊥) → unless t s ≡ 0 → t ≡ true
holds_of true s h e = refl
holds_of false s h e = absurd (h e)

-- lines 5 and 13
pub bad_invalid : (g : Group) → valid 3 g.merge ≡ false → bad_group g ≡ invalid_content
unfolding bad_group first_of
bad_invalid g v = rw v

pub bad_minus_zero : (g : Group) → valid 3 g.merge ≡ true → all_clean signed (layout 3 g.merge) (number g.counts) ≡ false → bad_group g ≡ minus_zero
unfolding bad_group first_of
bad_minus_zero g v c = rw (v, c)

pub clean_good : (g : Group) → Clean g → bad_group g ≡ 0
unfolding bad_group first_of
clean_good g o = rw (o.merges, o.counters)

pub good_clean : (g : Group) → bad_group g ≡ 0 → Clean g
unfolding bad_group
good_clean g e =
    let p = none_first _ _ e in
    let q = none_first _ _ p.1 in
    record { merges = holds_of _ invalid_content (λ z. omega arith) p.0; counters = holds_of _ minus_zero (λ z. omega arith) q.0 }

pub pair_clean : (g h : Group) → bad_pair g h ≡ 0 → Clean g × Clean h
unfolding bad_pair
pair_clean g h e = let p = none_earlier (bad_group g) (bad_group h) e in (good_clean g p.0, good_clean h p.1)

pub clean_pair : (g h : Group) → Clean g → Clean h → bad_pair g h ≡ 0
unfolding bad_pair
clean_pair g h o p = rw (clean_good g o, clean_good h p) (earlier_none 0)

-- one that is not merged
pub unmerged_valid : valid 3 0 ≡ true
unfolding valid ones
unmerged_valid = refl

pub unmerged_clean : (g : Group) → g.merge ≡ 0 → all_clean signed (layout 3 0) (number g.counts) ≡ true → Clean g
unmerged_clean g e c = record { merges = rw e unmerged_valid; counters = rw e c }

-- a block whose counters hold their values is what its encoding stands for, and that encoding is refused by no line
pub decode_encode : (b : BlockOf signed 3) → Fits b → decode (encode b) ≡ b
unfolding decode
decode_encode b f = decode_encode_of signed_codes b f

pub encode_good : (b : BlockOf signed 3) → Fits b → bad_group (encode b) ≡ 0
unfolding encode
encode_good b f =
    clean_good (encode b)
    (record {
      merges = encode_valid b;
      counters = rw (number_encode signed_codes b f, layout_marks (shape b)) (word_clean signed_codes b f);
    })

pub decode_fits : (g : Group) → number g.counts < cap 3 → Fits (decode g)
unfolding decode
decode_fits g h = block_fits_of signed_codes 3 (number g.counts) g.merge h

-- the code's answer, by what an addition or a union left
module _ (g : Group) (x : SumOf signed 3) where
  pub stored_is : (p : Packed) → Ok p ≡ signed_summed x → stored p ≡ settle g x
  stored_is p e = settle_stored signed_of g x p e

  pub full_is : (s : Signed) → Err s ≡ signed_summed x → unchanged counter_full g ≡ settle g x
  full_is s e = settle_past signed_of g x s e

-- additions and unions, by the lines that refuse them
module _ (g : Group) (slot : ℕ) (a : ℤ) where
  pub added_refused : (bad_group g ≡ 0 → ⊥) → added g slot a ≡ unchanged (bad_group g) g
  unfolding added
  added_refused n = rw (ne_eqb (bad_group g) 0 n)

  pub added_settled : bad_group g ≡ 0 → added g slot a ≡ settle g (add (decode g) (slot % 8) a)
  unfolding added
  added_settled e = rw (eq-eqb (bad_group g) 0 e)

module _ (minus : Bool) (g h : Group) where
  abbrev united : SumOf signed 3
  united = unite (decode g) (times_block minus (decode h))

  pub combined_refused : (bad_pair g h ≡ 0 → ⊥) → combined minus g h ≡ unchanged (bad_pair g h) g
  unfolding combined
  combined_refused n = rw (ne_eqb (bad_pair g h) 0 n)

  pub combined_settled : bad_pair g h ≡ 0 → combined minus g h ≡ settle g united
  unfolding combined
  combined_settled e = rw (eq-eqb (bad_pair g h) 0 e)

  -- by the totals
  module _ (k : number g.counts < cap 3) (k' : number h.counts < cap 3) where
    pub united_sound : Sound united
    united_sound = unite_sound (decode g) (times_block minus (decode h)) (decode_fits g k) (times_fits minus (decode h) (decode_fits h k'))

    united_total : sum_total united ≡ total (decode g) +ℤ times_sign minus (total (decode h))
    united_total = unite_total_of signed_sums (decode g) (times_block minus (decode h)) ∙ ap (λ (x : ℤ). total (decode g) +ℤ x) (times_total minus (decode h))

    pub status_fits : bad_pair g h ≡ 0 → nat_abs (total (decode g) +ℤ times_sign minus (total (decode h))) < top 3 → (combined minus g h).status ≡ 0
    status_fits e s = ap (λ (o : Outcome). o.status) (combined_settled e) ∙ settle_accepted g united united_sound (rw united_total s)

    pub status_full : bad_pair g h ≡ 0 → top 3 ≤ nat_abs (total (decode g) +ℤ times_sign minus (total (decode h))) → (combined minus g h).status ≡ counter_full
    status_full e s = ap (λ (o : Outcome). o.status) (combined_settled e ∙ settle_full signed_sums g united united_sound (rw united_total s))
