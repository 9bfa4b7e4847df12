-- Groups where nothing is merged, written 32 slots at a time.
use mathlib.Core.Path.{◌≡◌, refl, sym, ap, ap₂, ◌∙◌}
use mathlib.Core.List.{List, ◌∷◌, ◌++◌, map}
use Prim.Native.Nat.{ℕ, zero, suc, ◌+◌, ◌*◌, ◌≤◌, ◌<◌}
use native.Mathlib.Nat.{add-zero, add_assoc, add_comm}
use native.Mathlib.Numerals.{add-one}
use native.Mathlib.Omega.{arith}
use lib.ListN.{length, get_or, take, drop, length-drop}
use lib.Seq.{take-add, drop-drop, length-take-le}
use Rattle.group_codes.specs.Pack.{packed}
use Rattle.group_codes.proofs.Packing.{packed_none}
use Rattle.group.proofs.Laws.{Eight}
use Rattle.laws.proofs.Lists.{Bytes}
use Rattle.meter_memory.specs.Rows.{group_at}
use Rattle.laws.proofs.Lists.{bytes_drop, bytes_take}
use Rattle.image_format.specs.Image.{word, layout_kind, count_kind, groups_words, layout_at, four_words}
use Rattle.image_format.proofs.Plain.{plain_words}
use Rattle.image_size.specs.Size.{four_sum}
use Rattle.image_size.proofs.Plain.{clear_at}
use Rattle.image_counters.proofs.Laws.{map_append}
use Rattle.image_writer.proofs.Laws.{layout_is}

pub plain_groups : (n g w : ℕ) (row : List ℕ) → Bytes row → 8 * g + 8 * n ≤ length row → ((i : ℕ) → i < n → get_or row (w + (g + i)) 0 ≡ 0)
    → groups_words n g w row ≡ map (word count_kind) (take (8 * n) (drop (8 * g) row))
unfolding groups_words group_at
plain_groups zero g w row b h z = refl
plain_groups (suc n) g w row b h z =
    let xs = take 8 (drop (8 * g) row) in
    let o : Eight xs = record {
      long = length-take-le 8 (drop (8 * g) row) (omega (arith, length-drop (8 * g) row));
      small = bytes_take 8 (drop (8 * g) row) (bytes_drop (8 * g) row b);
    } in
    let m : get_or row (w + g) 0 ≡ 0 = rw (add-zero g) at (z 0 (omega arith)) in
    let r = plain_groups n (g + 1) w row b (omega arith) (λ i k. rw (add_assoc g 1 i, add_comm 1 i, add-one i) (z (suc i) (omega arith))) in
    let s : 8 * suc n ≡ 8 + 8 * n = omega arith in
    let e : 8 * (g + 1) ≡ 8 * g + 8 = omega arith in
    rw (m, r, s, take-add 8 (8 * n) (drop (8 * g) row), drop-drop 8 (8 * g) row, e) (ap (λ (l : List ℕ). l ++ map (word count_kind) (take (8 * n) (drop (8 * g + 8) row))) (plain_words xs o) ∙ sym (map_append (word count_kind) xs (take (8 * n) (drop (8 * g + 8) row))))

pub clear_words_lem : (w g : ℕ) (row : List ℕ) → Bytes row → 8 * g + 32 ≤ length row → four_sum row (w + g) ≡ 0
    → four_words w row g ≡ word layout_kind 0 ∷ map (word count_kind) (take 32 (drop (8 * g) row))
unfolding four_words
clear_words_lem w g row b h e =
    let z = clear_at w g row e in
    let l : layout_at w row g ≡ 0 = sym (layout_is w row g) ∙ four (omega arith) (omega arith) (omega arith) (omega arith) in
    ap₂ (λ (x : ℕ) (y : List ℕ). word layout_kind x ∷ y) l (plain_groups 4 g w row b h z)
  where
    four : {a b c d : ℕ} → a ≡ 0 → b ≡ 0 → c ≡ 0 → d ≡ 0 → (packed a b c d).value ≡ 0
    four e f g h = rw (e, f, g, h) packed_none
