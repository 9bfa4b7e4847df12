-- Groups where nothing is merged, read a byte from each word.
use mathlib.Core.Path.{◌≡◌, sym, ap, ap₂, ◌∙◌}
use mathlib.Core.List.{List, [], ◌∷◌, ◌++◌, map}
use Prim.Native.Nat.{ℕ, zero, suc, ◌+◌, ◌*◌, ◌%◌, ◌≤◌}
use native.Mathlib.Nat.{add-zero}
use native.Mathlib.Omega.{arith}
use lib.ListN.{length, get_or, take, drop, set, length-drop, length-map}
use lib.Seq.{sets, sets-eq, drop-cons, length-take-le}
use Rattle.group.proofs.Laws.{Eight}
use Rattle.laws.proofs.Lists.{Bytes}
use Rattle.group_fields.proofs.Readings.{none_merged_lem}
use Rattle.meter_memory.specs.Rows.{with_group}
use Rattle.image_format.specs.Image.{word, count_kind}
use Rattle.image_format.specs.Write.{group_size}
use Rattle.image_format.specs.Read.{read_group}
use Rattle.image_format.proofs.Sizes.{size_none}
use Rattle.image_format.proofs.Plain.{plain_words}
use Rattle.image_group_checker.specs.Checker.{Counts}
use Rattle.image_group_checker.proofs.Bits.{count_is}
use Rattle.image_reader.specs.Reader.{lows}
use Rattle.image_reader.proofs.Restoring.{Restored, group_restored}

counts_are : (n : ℕ) (words : List ℕ) (p : ℕ) → Counts words p n → drop p words ≡ map (word count_kind) (lows words p n) ++ drop (p + n) words
counts_are zero words p c = rw (add-zero p)
counts_are (suc n) words p c =
    let d = drop-cons words p 0 (omega (arith, c.0)) in
    let e : p + suc n ≡ suc p + n = omega arith in
    let r = counts_are n words (suc p) (omega (arith, c.0), λ i k. let q : suc p + i ≡ p + suc i = omega arith in rw q (c.1 (suc i) (omega arith))) in
    let x : get_or words p 0 ≡ word count_kind (get_or words p 0 % 256) = count_is (get_or words p 0) (rw (add-zero p) at (c.1 0 (omega arith))) in
    let t : lows words p (suc n) ≡ get_or words p 0 % 256 ∷ lows words (suc p) n = ap (λ (l : List ℕ). map (λ (x : ℕ). x % 256) (take (suc n) l)) d in
    d ∙ ap₂ (λ (y : ℕ) (l : List ℕ). y ∷ l) x r ∙ rw (t, e)

lows_small : (xs : List ℕ) → Bytes (map (λ (x : ℕ). x % 256) xs)
lows_small [] i = omega arith
lows_small (x ∷ xs) zero = omega arith
lows_small (x ∷ xs) (suc i) = lows_small xs i

pub lows_length : (words : List ℕ) (p n : ℕ) → p + n ≤ length words → length (lows words p n) ≡ n
lows_length words p n h = length-map (take n (drop p words)) (λ (x : ℕ). x % 256) ∙ length-take-le n (drop p words) (omega (arith, length-drop p words))

plain_restored : (words : List ℕ) (p : ℕ) → Counts words p 8 → Restored (record { counts = lows words p 8; merge = 0 }) words p (drop (p + 8) words)
plain_restored words p c =
    let xs = lows words p 8 in
    let o : Eight xs = record { long = lows_length words p 8 c.0; small = lows_small (take 8 (drop p words)) } in
    group_restored (record { counts = xs; merge = 0 }) words p (drop (p + 8) words) (record { merges = none_merged_lem; eight = o })
    (counts_are 8 words p c ∙ ap (λ (l : List ℕ). l ++ drop (p + 8) words) (sym (plain_words xs o)))

pub plain_read : (w g : ℕ) (row words : List ℕ) (p : ℕ) → 8 * g + 8 ≤ length row → Counts words p 8
    → set (sets row (8 * g) (lows words p 8)) (w + g) 0 ≡ with_group w row g (read_group 0 words p)
unfolding with_group
plain_read w g row words p h c =
    let xs = lows words p 8 in
    let l = lows_length words p 8 c.0 in
    let e : sets row (8 * g) xs ≡ take (8 * g) row ++ xs ++ drop (8 * g + 8) row = sets-eq xs row (8 * g) (omega arith) ∙ rw l in
    ap (λ (z : List ℕ). set z (w + g) 0) e ∙ ap (with_group w row g) (sym (plain_restored words p c).is)

pub plain_size : (m : ℕ) → m ≡ 0 → group_size m ≡ 8
plain_size m e = ap group_size e ∙ size_none
