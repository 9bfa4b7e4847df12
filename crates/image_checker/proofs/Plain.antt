-- Groups where nothing is merged, checked 32 slots at a time.
use mathlib.Core.Path.{◌≡◌, sym, ap, ap₂, ◌∙◌}
use mathlib.Core.List.{List, ◌∷◌}
use Prim.Native.Nat.{ℕ, zero, suc, ◌+◌, ◌*◌, ◌%◌, ◌^◌, ◌≤◌, ◌<◌}
use native.Mathlib.Nat.{add-zero, add_assoc, mod-one, div-one}
use native.Mathlib.Numerals.{add-one}
use native.Mathlib.Omega.{arith}
use borrow.Author.Tests.{eq-eqb}
use lib.ListN.{length, get_or, drop, replicate}
use lib.Bits.{bit_xor}
use lib.Seq.{drop-cons}
use Rattle.group_codes.specs.Pack.{layouts_of, four_merges, unpacked}
use Rattle.group_codes.proofs.Packing.{merge_none}
use Rattle.word.specs.Word.{go, next, payload}
use Rattle.image_format.specs.Image.{word, layout_kind, count_kind, word_count, is_first}
use Rattle.image_format.specs.Read.{first_bits, check_parts, check_slot, check_slots, check_groups, check_four, merges_at}
use Rattle.image_format.proofs.Sizes.{plain_level}
use Rattle.image_group_checker.specs.Checker.{Counts}
use Rattle.image_group_checker.proofs.Bits.{count_is, same_from}
use Rattle.image_group_checker.proofs.Digits.{below_here, payload_here}

plain_slot : (k : ℕ) (words : List ℕ) (p : ℕ) → k < 8 → Counts words p 1 → check_slot 0 k words p ≡ go (p + 1)
unfolding check_slot check_parts is_first word_count first_bits next
plain_slot k words p h c =
    let x = get_or words p 0 in
    let e : x ≡ word count_kind (x % 256) = count_is x (rw (add-zero p) at (c.1 0 (omega arith))) in
    let d : drop p words ≡ word count_kind (x % 256) ∷ drop (suc p) words = drop-cons words p 0 (omega (arith, c.0)) ∙ ap (λ (y : ℕ). y ∷ drop (suc p) words) e in
    rw (plain_level k h, eq-eqb (k % 1) 0 (mod-one k), below_here words p count_kind (x % 256) (drop (suc p) words) d (omega arith) 256 (omega arith))

-- fewer of them, and those behind the first
some : (words : List ℕ) (p n m : ℕ) → m ≤ n → Counts words p n → Counts words p m
some words p n m h c = (omega (arith, c.0), λ i l. c.1 i (omega arith))

behind : (words : List ℕ) (p n m : ℕ) → Counts words p (m + n) → Counts words (p + m) n
behind words p n m c = (omega (arith, c.0), λ i l. rw (add_assoc p m i) (c.1 (m + i) (omega arith)))

plain_slots : (n k : ℕ) (words : List ℕ) (p : ℕ) → k + n ≤ 8 → Counts words p n → check_slots n k 0 words p ≡ go (p + n)
unfolding check_slots next
plain_slots zero k words p h c = ap go (sym (add-zero p))
plain_slots (suc n) k words p h c =
    let one : suc n ≡ 1 + n = omega arith in
    rw (plain_slot k words p (omega arith) (some words p (suc n) 1 (omega arith) c))
    (plain_slots n (k + 1) words (p + 1) (omega arith) (behind words p n 1 (rw one at c)) ∙ ap go (omega arith))

plain_check_groups : (n : ℕ) (words : List ℕ) (p : ℕ) → Counts words p (8 * n) → check_groups (replicate n 0) words p ≡ go (p + 8 * n)
unfolding check_groups next
plain_check_groups zero words p c = ap go (sym (add-zero p))
plain_check_groups (suc n) words p c =
    let e : 8 * suc n ≡ 8 + 8 * n = omega arith in
    rw (plain_slots 8 0 words p (omega arith) (some words p (8 * suc n) 8 (omega arith) c))
    (plain_check_groups n words (p + 8) (behind words p (8 * n) 8 (rw e at c)) ∙ ap go (omega arith))

merges_none : (unpacked 0).merges ≡ replicate 4 0
unfolding unpacked four_merges
merges_none = rw merge_none

pub clear_checks : (words : List ℕ) (p : ℕ) → p < length words → get_or words p 0 ≡ word layout_kind 0 → Counts words (p + 1) 32 → check_four words p ≡ go (p + 33)
unfolding check_four merges_at next
clear_checks words p h e c =
    let d : drop p words ≡ word layout_kind 0 ∷ drop (p + 1) words = drop-cons words p 0 (omega arith) ∙ ap₂ (λ (x i : ℕ). x ∷ drop i words) e (sym (add-one p)) in
    let x : payload words p ≡ 0 = payload_here words p layout_kind 0 (drop (p + 1) words) d (omega arith) in
    rw (below_here words p layout_kind 0 (drop (p + 1) words) d (omega arith) (layouts_of 4) (omega arith))
    (ap (λ (c : ℕ). check_groups (unpacked c).merges words (p + 1)) x ∙ ap (λ (m : List ℕ). check_groups m words (p + 1)) merges_none
    ∙ plain_check_groups 4 words (p + 1) c ∙ ap go (omega arith))

-- a word with no payload
pub same_word : (x kind : ℕ) → bit_xor x (kind * 2 ^ 28) ≡ 0 → x ≡ word kind 0
unfolding word
same_word x kind h =
    sym (div-one x) ∙ same_from x (kind * 2 ^ 28) 0 (rw (div-one (bit_xor x (kind * 2 ^ 28))) h) ∙ div-one (kind * 2 ^ 28) ∙ sym (add-zero (kind * 2 ^ 28))
