-- The fields of a group's words: how many there are, that each lies in the 64 bits of the count bytes, and tables that describe them.
use mathlib.Core.Path.{◌≡◌, refl, sym, ap, ap₂, ◌∙◌}
use mathlib.Core.Bool.{true, false}
use mathlib.Core.List.{List, ◌++◌}
use Prim.Native.Nat.{ℕ, zero, suc, ◌+◌, ◌-◌, ◌*◌, ◌^◌, ◌≤◌, ◌<◌}
use native.Mathlib.Nat.{add-zero}
use native.Mathlib.Numerals.{sub-one}
use native.Mathlib.Decide.{dec_lt}
use native.Mathlib.Omega.{arith}
use lib.ListN.{length, get_or, drop, set, length-append, length-set, get_or-append}
use lib.Pow.{pow_pos}
use lib.Seq.{get_or-append-add, get_or-drop, get_or-set_same, get_or-set_other, drop-drop, drop_at}
use Rattle.image_format.specs.Fields.{Field, part_fields, slot_fields, slots_fields, group_fields, field_at, Told, Described}
use Rattle.image_format.specs.Image.{word_count, level_at, is_first}
use Rattle.image_format.specs.Read.{first_bits}
use Rattle.image_format.specs.Write.{slot_size, slots_size, group_size}
use borrow.Table.Steps.{cases}
use Rattle.image_format.proofs.Laws.{size_first, sizes_none}
use Rattle.image_format.proofs.Sizes.{first_zero}
use Rattle.image_format.proofs.Counters.{counter_end, next_first, behind, sizes_turn}

-- there is a field for each word
pub parts_size : (n place bits : ℕ) → length (part_fields n place bits) ≡ n
unfolding part_fields
parts_size zero place bits = refl
parts_size (suc n) place bits = ap suc (parts_size n place 24)

slot_size_lem : (m k : ℕ) → length (slot_fields m k) ≡ slot_size m k
unfolding slot_fields slot_size
slot_size_lem m k = cases (is_first m k) (λ t. rw t (parts_size (word_count (level_at m k)) (8 * k) (first_bits (level_at m k)))) (λ t. rw t)

slots_size_lem : (n k m : ℕ) → length (slots_fields n k m) ≡ slots_size n k m
unfolding slots_fields slots_size
slots_size_lem zero k m = refl
slots_size_lem (suc n) k m = length-append (slot_fields m k) (slots_fields n (k + 1) m) ∙ ap₂ (λ (a b : ℕ). a + b) (slot_size_lem m k) (slots_size_lem n (k + 1) m)

pub fields_size : (m : ℕ) → length (group_fields m) ≡ group_size m
unfolding group_fields group_size
fields_size m = slots_size_lem 8 0 m

-- a counter has at most as many words as slots
pub words_most : (level : ℕ) → word_count level ≤ 2 ^ level
unfolding word_count
words_most level = omega (arith, pow_pos level)

-- from counter to counter: f counters at most are left
sizes_most : (f k m : ℕ) → 8 ≤ k + f → (k < 8 → is_first m k ≡ true) → slots_size (8 - k) k m ≤ 8 - k
sizes_most zero k m h t = omega (arith, sizes_none (8 - k) k m (omega arith))
sizes_most (suc f) k m h t = elim (dec_lt k 8) [
  | yes l ↦
      let L = level_at m k in
      let e = size_first m k L (word_count L) refl (t l) refl in
      omega (arith, sizes_turn k m l (t l), e, words_most L, counter_end m k l (t l), sizes_most f (k + 2 ^ L) m (omega (arith, pow_pos L)) (next_first m k l (t l)))
  | no l ↦ omega (arith, sizes_none (8 - k) k m (omega arith))
]

pub size_most : (m : ℕ) → group_size m ≤ 8
unfolding group_size
size_most m = sizes_most 8 0 m (omega arith) (λ l. first_zero m)

-- the words of a counter have all of its bits
pub words_bits : (level : ℕ) → (1 ≤ word_count level) × (first_bits level + 24 * (word_count level - 1) ≡ 8 * 2 ^ level) × (1 ≤ first_bits level) × (first_bits level ≤ 24)
unfolding word_count first_bits
words_bits level = (omega (arith, pow_pos level), omega (arith, pow_pos level), omega (arith, pow_pos level), omega (arith, pow_pos level))

abbrev In : Field → Type 0
In f = (f.bits ≤ 24) × (f.place + f.bits ≤ 64) × (1 ≤ f.bits)

-- where no field is
abbrev pub none : Field
none = record { place = 0; bits = 0 }

parts_in : (n place bits i : ℕ) → i < n → bits ≤ 24 → place + 24 * (n - 1) + bits ≤ 64 → 1 ≤ bits → In (get_or (part_fields n place bits) i none)
unfolding part_fields
parts_in zero place bits i h a b c = absurd (omega arith)
parts_in (suc n) place bits zero h a b c = (a, omega arith, c)
parts_in (suc n) place bits (suc i) h a b c = parts_in n place 24 i (omega arith) (omega arith) (omega arith) (omega arith)

slot_in : (m k i : ℕ) → k < 8 → i < length (slot_fields m k) → In (get_or (slot_fields m k) i none)
unfolding slot_fields slot_size
slot_in m k i l h =
    let n : i < slot_size m k = rw (slot_size_lem m k) at h in
    cases (is_first m k)
    (λ t.
    let L = level_at m k in
    let b = words_bits L in
    rw t (parts_in (word_count L) (8 * k) (first_bits L) i (rw t at n) b.3 (omega (arith, counter_end m k l t)) b.2))
    (λ t. let z : i < 0 = rw t at n in absurd (omega arith))

slots_in : (n k m i : ℕ) → k + n ≤ 8 → i < length (slots_fields n k m) → In (get_or (slots_fields n k m) i none)
unfolding slots_fields
slots_in zero k m i l h = absurd (omega arith)
slots_in (suc n) k m i l h =
    let xs = slot_fields m k in
    let ys = slots_fields n (k + 1) m in
    elim (dec_lt i (length xs)) [
      | yes j ↦ rw (get_or-append xs ys none i j) (slot_in m k i (omega arith) j)
      | no j ↦
          let e : i ≡ length xs + (i - length xs) = omega arith in
          rw e (rw (get_or-append-add xs ys (i - length xs) none) (slots_in n (k + 1) m (i - length xs) (omega arith) (omega (arith, length-append xs ys))))
    ]

pub field_in : (m i : ℕ) → i < group_size m → ((field_at (group_fields m) i).bits ≤ 24) × ((field_at (group_fields m) i).place + (field_at (group_fields m) i).bits ≤ 64) × (1 ≤ (field_at (group_fields m) i).bits)
unfolding group_fields
field_in m i h = slots_in 8 0 m i (omega arith) (omega (arith, fields_size m))

-- one word more of a description
module _ (fs : List Field) (t : List ℕ) (at j : ℕ) (long : at + 17 ≤ length t) (h : j < 8) where
  next_told : (x y : ℕ) → (get_or fs j none).place ≡ x → (get_or fs j none).bits ≡ y → Told fs j t at → Told fs (j + 1) (set (set t (at + 1 + j) x) (at + 9 + j) y) at
  next_told x y p q o i l =
      let s = set t (at + 1 + j) x in
      elim (dec_lt i j) [
        | yes k ↦ (
          get_or-set_other s (at + 9 + j) (at + 1 + i) y 0 (λ e. omega arith) ∙ get_or-set_other t (at + 1 + j) (at + 1 + i) x 0 (λ e. omega arith) ∙ (o i k).0,
          get_or-set_other s (at + 9 + j) (at + 9 + i) y 0 (λ e. omega arith) ∙ get_or-set_other t (at + 1 + j) (at + 9 + i) x 0 (λ e. omega arith) ∙ (o i k).1,
        )
        | no k ↦
            let e : i ≡ j = omega arith in
            rw (e, p, q) (
              get_or-set_other s (at + 9 + j) (at + 1 + j) y 0 (λ e. omega arith) ∙ get_or-set_same t (at + 1 + j) x 0 (omega arith),
              get_or-set_same s (at + 9 + j) y 0 (omega (arith, length-set t (at + 1 + j) x)),
            )
      ]

  pub told_more : (rest : List Field) (left place b : ℕ) → 0 < left → drop j fs ≡ part_fields left place b ++ rest → Told fs j t at
      → (drop (j + 1) fs ≡ part_fields (left - 1) place 24 ++ rest) × Told fs (j + 1) (set (set t (at + 1 + j) (place + 24 * (left - 1))) (at + 9 + j) b) at
  unfolding part_fields
  told_more rest zero place b g e o = absurd (omega arith)
  told_more rest (suc n) place b g e o =
      let f : get_or fs j none ≡ record { place = place + 24 * n; bits = b } = rw (add-zero j) at (sym (get_or-drop j fs 0 none) ∙ ap (λ (l : List Field). get_or l 0 none) e) in
      rw (sub-one (suc n)) (
        sym (drop-drop 1 j fs) ∙ ap (drop 1) e,
        next_told (place + 24 * n) b (ap (λ (x : Field). x.place) f) (ap (λ (x : Field). x.bits) f) o,
      )

-- the words from the first slot of a counter on: those of the counter, and those behind it
pub fields_turn : (m k level n bits : ℕ) → k < 8 → is_first m k ≡ true → level ≡ level_at m k → n ≡ word_count level → bits ≡ first_bits level
    → slots_fields (8 - k) k m ≡ part_fields n (8 * k) bits ++ slots_fields (8 - (k + 2 ^ level_at m k)) (k + 2 ^ level_at m k) m
unfolding slots_fields slot_fields
fields_turn m k level n bits h t e f g =
    let z : 8 - k ≡ suc (8 - (k + 1)) = omega arith in
    rw (f, g, e, z, t) (ap (λ (l : List Field). part_fields (word_count (level_at m k)) (8 * k) (first_bits (level_at m k)) ++ l) (behind (λ n i. slots_fields n i m) m (λ n i o. rw o) k h t))

-- slot by slot: the words of the counter that starts at a slot, or none
pub fields_some : (m k level n bits : ℕ) → k < 8 → is_first m k ≡ true → level ≡ level_at m k → n ≡ word_count level → bits ≡ first_bits level
    → slots_fields (8 - k) k m ≡ part_fields n (8 * k) bits ++ slots_fields (8 - (k + 1)) (k + 1) m
unfolding slots_fields slot_fields
fields_some m k level n bits h t e f g =
    let z : 8 - k ≡ suc (8 - (k + 1)) = omega arith in
    rw (f, g, e, z, t) refl

pub fields_other : (m k : ℕ) → k < 8 → is_first m k ≡ false → slots_fields (8 - k) k m ≡ slots_fields (8 - (k + 1)) (k + 1) m
unfolding slots_fields slot_fields
fields_other m k h t =
    let z : 8 - k ≡ suc (8 - (k + 1)) = omega arith in
    rw (z, t) refl

-- what is behind the words of a counter
pub past_parts : (fs rest : List Field) (i n place bits : ℕ) → drop i fs ≡ part_fields n place bits ++ rest → drop (i + n) fs ≡ rest
past_parts fs rest i n place bits e =
    sym (drop-drop n i fs) ∙ ap (drop n) e ∙ drop_at (part_fields n place bits) rest n (parts_size n place bits)

-- a description is whole with the number of its words
pub described : (m : ℕ) (t : List ℕ) (at n : ℕ) → at < length t → n ≡ group_size m → Told (group_fields m) n t at → Described m (set t at n) at
described m t at n h e o = (
  get_or-set_same t at n 0 h ∙ e,
  λ i l.
      let p = o i (omega arith) in
      (get_or-set_other t at (at + 1 + i) n 0 (λ e. omega arith) ∙ p.0, get_or-set_other t at (at + 9 + i) n 0 (λ e. omega arith) ∙ p.1),
)
