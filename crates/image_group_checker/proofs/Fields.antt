-- A group's words by their fields, checked one by one.
use mathlib.Core.Path.{◌≡◌, refl, sym, ap, ◌∙◌}
use mathlib.Core.Bool.{true, cond}
use mathlib.Core.List.{List, [], ◌∷◌, ◌++◌}
use Prim.Native.Nat.{ℕ, zero, suc, ◌+◌, ◌-◌, ◌*◌, ◌/◌, ◌%◌, ◌^◌, ◌≤◌, ◌<◌}
use native.Mathlib.Nat.{add-zero, mul_assoc, mod-lt, mod-eq_of_lt}
use native.Mathlib.Omega.{arith}
use borrow.Author.Tests.{lt-ltb, eq-eqb}
use lib.Bits.{bit_xor}
use lib.Dec.{eqb}
use lib.ListN.{length, get_or}
use lib.Pow.{pow_pos, pow-add, pow_mono, split, shl-shr}
use Rattle.word.specs.Step.{Step}
use Rattle.word.specs.Word.{go, next, payload, is_due, tested, below}
use Rattle.image_format.specs.Image.{count_kind, word_count, level_at, is_first}
use Rattle.image_format.specs.Write.{group_size}
use Rattle.image_format.specs.Read.{check_parts, check_slot, check_slots, first_bits}
use Rattle.image_format.specs.Fields.{Field, part_fields, slot_fields, slots_fields, group_fields, field_at, Described}
use borrow.Table.Steps.{cases}
use Rattle.image_format.proofs.Fields.{none, fields_size, size_most, field_in}
use Rattle.image_group_checker.proofs.Bits.{same_from}

-- the words of fields, checked
unfoldable check_fields : List Field → List ℕ → ℕ → Step
check_fields [] words p = go p
check_fields (f ∷ fs) words p = next (below words p count_kind (2 ^ f.bits)) (λ q. check_fields fs words q)

-- the test after a test that passed
after : (s : Step) (f g : ℕ → Step) → f s.position ≡ g s.position → next s f ≡ next s g
unfolding next
after s f g e = ap (λ (x : Step). cond (eqb s.status 0) x s) e

next_next : (s : Step) (f g : ℕ → Step) → next (next s f) g ≡ next s (λ q. next (f q) g)
unfolding next
next_next s f g = cases (eqb s.status 0) (λ e. rw e) (λ e. rw (e, e))

check_append : (fs gs : List Field) (words : List ℕ) (p : ℕ) → check_fields (fs ++ gs) words p ≡ next (check_fields fs words p) (λ q. check_fields gs words q)
unfolding check_fields next
check_append [] gs words p = refl
check_append (f ∷ fs) gs words p =
    let s = below words p count_kind (2 ^ f.bits) in
    after s (λ q. check_fields (fs ++ gs) words q) (λ q. next (check_fields fs words q) (λ r. check_fields gs words r)) (check_append fs gs words s.position)
    ∙ sym (next_next s (λ q. check_fields fs words q) (λ q. check_fields gs words q))

check_parts_fields : (n place bits : ℕ) (words : List ℕ) (p : ℕ) → check_parts n words p (2 ^ bits) ≡ check_fields (part_fields n place bits) words p
unfolding check_parts check_fields part_fields
check_parts_fields zero place bits words p = refl
check_parts_fields (suc n) place bits words p =
    let s = below words p count_kind (2 ^ bits) in
    after s (λ q. check_parts n words q (2 ^ 24)) (λ q. check_fields (part_fields n place 24) words q) (check_parts_fields n place 24 words s.position)

check_slot_fields : (m k : ℕ) (words : List ℕ) (p : ℕ) → check_slot m k words p ≡ check_fields (slot_fields m k) words p
unfolding check_slot slot_fields check_fields
check_slot_fields m k words p =
    cases (is_first m k)
    (λ t. rw t (check_parts_fields (word_count (level_at m k)) (8 * k) (first_bits (level_at m k)) words p))
    (λ t. rw t)

check_slots_fields : (n k m : ℕ) (words : List ℕ) (p : ℕ) → check_slots n k m words p ≡ check_fields (slots_fields n k m) words p
unfolding check_slots slots_fields check_fields
check_slots_fields zero k m words p = refl
check_slots_fields (suc n) k m words p =
    let s = check_slot m k words p in
    let rest : ℕ → Step = λ q. check_fields (slots_fields n (k + 1) m) words q in
    after s (λ q. check_slots n (k + 1) m words q) rest (check_slots_fields n (k + 1) m words s.position)
    ∙ ap (λ (x : Step). next x rest) (check_slot_fields m k words p)
    ∙ sym (check_append (slot_fields m k) (slots_fields n (k + 1) m) words p)

-- a word of a counter with a payload of so many bits
abbrev pub Holds : List ℕ → ℕ → ℕ → Type 0
Holds words p bits = (is_due words p count_kind ≡ true) × (payload words p < 2 ^ bits)

fields_pass : (fs : List Field) (words : List ℕ) (p : ℕ) → ((i : ℕ) → i < length fs → Holds words (p + i) (get_or fs i none).bits)
    → check_fields fs words p ≡ go (p + length fs)
unfolding check_fields below tested next
fields_pass [] words p h = ap go (sym (add-zero p))
fields_pass (f ∷ fs) words p h =
    let z : Holds words p f.bits = rw (add-zero p) at (h 0 (omega arith)) in
    rw (z.0, lt-ltb (payload words p) (2 ^ f.bits) z.1)
    (fields_pass fs words (p + 1) (λ i l. let e : p + 1 + i ≡ p + suc i = omega arith in rw e (h (suc i) (omega arith))) ∙ ap go (omega arith))

pub sound_fields : (m : ℕ) (words : List ℕ) (p : ℕ) → ((i : ℕ) → i < group_size m → Holds words (p + i) (field_at (group_fields m) i).bits)
    → check_slots 8 0 m words p ≡ go (p + group_size m)
unfolding group_fields
sound_fields m words p h =
    check_slots_fields 8 0 m words p
    ∙ fields_pass (group_fields m) words p (λ i l. h i (omega (arith, fields_size m)))
    ∙ ap (λ (n : ℕ). go (p + n)) (fields_size m)

-- a word with the bits of a counter's from a place on
holds_bits : (words : List ℕ) (p b : ℕ) → b ≤ 24 → p < length words → bit_xor (get_or words p 0) (count_kind * 2 ^ 28) / 2 ^ b ≡ 0 → Holds words p b
unfolding is_due payload
holds_bits words p b h i z =
    let x = get_or words p 0 in
    let all : 28 ≡ 28 - b + b = omega arith in
    let kind : 0x30000000 ≡ 3 * 2 ^ (28 - b) * 2 ^ b = ap (λ (n : ℕ). 3 * 2 ^ n) all ∙ ap (λ (n : ℕ). 3 * n) (pow-add 2 (28 - b) b) ∙ sym (mul_assoc 3 (2 ^ (28 - b)) (2 ^ b)) in
    let e : x / 2 ^ b ≡ 3 * 2 ^ (28 - b) = same_from x 0x30000000 b z ∙ ap (λ (n : ℕ). n / 2 ^ b) kind ∙ shl-shr (3 * 2 ^ (28 - b)) b in
    let is : x ≡ 0x30000000 + x % 2 ^ b = sym (split x b) ∙ ap (λ (n : ℕ). n * 2 ^ b + x % 2 ^ b) e ∙ ap (λ (n : ℕ). n + x % 2 ^ b) (sym kind) in
    let low = mod-lt x (pow_pos b) in
    let small = pow_mono {i = b} {j = 24} h in
    let due : x / 2 ^ 28 ≡ 3 = omega (arith, is, low, small) in
    (rw (lt-ltb p (length words) i) (eq-eqb (x / 2 ^ 28) 3 due), omega (arith, is, low, small))

-- eight words with the bits that a description says
pub sound_described : (m : ℕ) (t : List ℕ) (at : ℕ) (words : List ℕ) (p : ℕ) → Described m t at → p + 8 ≤ length words
    → ((i : ℕ) → i < 8 → bit_xor (get_or words (p + i) 0) (count_kind * 2 ^ 28) / 2 ^ (get_or t (at + 9 + i) 0 % 32) ≡ 0) → check_slots 8 0 m words p ≡ go (p + group_size m)
sound_described m t at words p d h f =
    sound_fields m words p
    (λ i l.
    let n = size_most m in
    let b = (field_in m i l).0 in
    let e : get_or t (at + 9 + i) 0 % 32 ≡ (field_at (group_fields m) i).bits = rw (d.1 i l).1 (mod-eq_of_lt {n = (field_at (group_fields m) i).bits} {m = 32} (omega arith)) in
    holds_bits words (p + i) (field_at (group_fields m) i).bits b (omega arith) (rw (← e) (f i (omega arith))))
