-- The words of a group's counters by the fields of its layout: each has some bits of a counter.
use mathlib.Core.Path.{◌≡◌, refl, sym, ap, ap₂, ◌∙◌}
use mathlib.Core.Bool.{true}
use mathlib.Core.List.{List, [], ◌∷◌, ◌++◌, map}
use Prim.Native.Nat.{ℕ, zero, suc, ◌+◌, ◌-◌, ◌*◌, ◌/◌, ◌%◌, ◌^◌, ◌≤◌, ◌<◌}
use native.Mathlib.Nat.{mod-eq_of_lt}
use native.Mathlib.Numerals.{add-one}
use native.Mathlib.Omega.{arith}
use lib.ListN.{get_or, drop, drop_of_length-le, get_or-map}
use lib.Pow.{pow_mono, shr_lt}
use lib.Seq.{drop-cons}
use Rattle.group.specs.declared.Group.{Group}
use Rattle.group.specs.Group.{read}
use Rattle.group.proofs.Changing.{Good}
use Rattle.group_fields.specs.declared.Fields as fields
use Rattle.group_fields.specs.Fields.{fields_of, bits_at}
use Rattle.group_fields.proofs.Readings.{value_below}
use Rattle.group_fields.proofs.Counters.{counter_bits}
use Rattle.image_format.specs.Image.{word, count_kind, parts, word_count, level_at, is_first, slot_words, slots_words, group_words}
use Rattle.image_format.specs.Write.{group_size}
use Rattle.image_format.specs.Read.{first_bits}
use Rattle.image_format.specs.Fields.{Field, part_fields, slot_fields, slots_fields, group_fields, field_at, Described}
use borrow.Table.Steps.{cases}
use Rattle.image_format.proofs.Sizes.{read_level}
use Rattle.image_format.proofs.Counters.{first_is}
use Rattle.image_format.proofs.Fields.{words_bits}
use Rattle.image_format.proofs.Plain.{more}
use Rattle.image_size.proofs.Laws.{group_length}
use Rattle.image_counters.proofs.Laws.{map_append}

-- the word that a field makes
abbrev pub field_word : fields.Fields → Field → ℕ
field_word x f = word count_kind (bits_at x f.place f.bits)

-- the words of the counter that starts at slot k
module _ (g : Group) (k : ℕ) (o : Good g) (h : k < 8) (t : is_first g.merge k ≡ true) where
  abbrev all : fields.Fields
  all = fields_of g.counts

  part_bits : (i n : ℕ) → i + n ≤ 8 * 2 ^ level_at g.merge k → (read g k).value / 2 ^ i % 2 ^ n ≡ bits_at all (8 * k + i) n
  part_bits i n l = sym (counter_bits g k i n o h (first_is g k t) (rw (read_level g k) l))

  parts_fields : (n : ℕ) → 24 * n ≤ 8 * 2 ^ level_at g.merge k → parts n (read g k).value ≡ map (field_word all) (part_fields n (8 * k) 24)
  unfolding parts part_fields
  parts_fields zero l = refl
  parts_fields (suc n) l = more (part_bits (24 * n) 24 (omega arith)) (parts_fields n (omega arith))

  -- the first word, which may have fewer bits than the others
  counter_fields : let L = level_at g.merge k in parts (word_count L) (read g k).value ≡ map (field_word all) (part_fields (word_count L) (8 * k) (first_bits L))
  unfolding parts part_fields
  counter_fields =
      let L = level_at g.merge k in
      let v = (read g k).value in
      let b = words_bits L in
      let n = word_count L - 1 in
      let s : word_count L ≡ suc n = omega arith in
      let bits = first_bits L in
      let low : v / 2 ^ (24 * n) < 2 ^ bits = shr_lt bits (24 * n) (rw (b.1, ← read_level g k) (value_below g k o h)) in
      let small : v / 2 ^ (24 * n) < 2 ^ 24 = omega (arith, low, pow_mono {i = bits} {j = 24} b.3) in
      let top : v / 2 ^ (24 * n) % 2 ^ 24 ≡ bits_at all (8 * k + 24 * n) bits
      = mod-eq_of_lt {n = v / 2 ^ (24 * n)} {m = 2 ^ 24} small ∙ sym (mod-eq_of_lt {n = v / 2 ^ (24 * n)} {m = 2 ^ bits} low) ∙ part_bits (24 * n) bits (omega arith) in
      rw s (more top (parts_fields n (omega arith)))

slot_fields_lem : (g : Group) (k : ℕ) → Good g → k < 8 → slot_words g k ≡ map (field_word (fields_of g.counts)) (slot_fields g.merge k)
unfolding slot_words slot_fields
slot_fields_lem g k o h =
    cases (is_first g.merge k)
    (λ t. rw t (counter_fields g k o h t))
    (λ f. rw f)

slots_fields_lem : (n k : ℕ) (g : Group) → Good g → k + n ≤ 8 → slots_words n k g ≡ map (field_word (fields_of g.counts)) (slots_fields n k g.merge)
unfolding slots_words slots_fields
slots_fields_lem zero k g o h = refl
slots_fields_lem (suc n) k g o h =
    let x = fields_of g.counts in
    ap₂ ◌++◌ (slot_fields_lem g k o (omega arith)) (slots_fields_lem n (k + 1) g o (omega arith))
    ∙ sym (map_append (field_word x) (slot_fields g.merge k) (slots_fields n (k + 1) g.merge))

pub group_fields_lem : (g : Group) → Good g → group_words g ≡ map (field_word (fields_of g.counts)) (group_fields g.merge)
unfolding group_words group_fields
group_fields_lem g o = slots_fields_lem 8 0 g o (omega arith)

-- the words one by one
words_step : (g : Group) (i : ℕ) → Good g → i < group_size g.merge
    → drop i (group_words g) ≡ field_word (fields_of g.counts) (field_at (group_fields g.merge) i) ∷ drop (i + 1) (group_words g)
words_step g i o h =
    let f : Field → ℕ = field_word (fields_of g.counts) in
    let z : Field = record { place = 0; bits = 0 } in
    rw (add-one i)
    (drop-cons (group_words g) i (f z) (omega (arith, group_length g))
    ∙ ap (λ (v : ℕ). v ∷ drop (suc i) (group_words g)) (ap (λ (l : List ℕ). get_or l i (f z)) (group_fields_lem g o) ∙ get_or-map f (group_fields g.merge) i z))

words_end : (g : Group) (i : ℕ) → group_size g.merge ≤ i → drop i (group_words g) ≡ []
words_end g i h = drop_of_length-le (group_words g) {i = i} (omega (arith, group_length g))

-- the words that n fields of a table make, from the i-th of the description at `at` on
unfoldable pub table_words : List ℕ → ℕ → fields.Fields → ℕ → ℕ → List ℕ
table_words t at x zero i = []
table_words t at x (suc n) i = word count_kind (bits_at x (get_or t (at + 1 + i) 0) (get_or t (at + 9 + i) 0)) ∷ table_words t at x n (i + 1)

module _ (t : List ℕ) (at : ℕ) (x : fields.Fields) where
  pub table_step : (n i : ℕ) → i < n → table_words t at x (n - i) i ≡ word count_kind (bits_at x (get_or t (at + 1 + i) 0) (get_or t (at + 9 + i) 0)) ∷ table_words t at x (n - (i + 1)) (i + 1)
  unfolding table_words
  table_step n i h =
      let e : n - i ≡ suc (n - (i + 1)) = omega arith in
      rw e

  pub table_none : (n i : ℕ) → n ≡ 0 → table_words t at x n i ≡ []
  unfolding table_words
  table_none n i e = rw e

-- those of a description are the group's
table_from : (g : Group) (t : List ℕ) (at n i : ℕ) → Good g → Described g.merge t at → i + n ≡ group_size g.merge → table_words t at (fields_of g.counts) n i ≡ drop i (group_words g)
unfolding table_words
table_from g t at zero i o d e = sym (words_end g i (omega arith))
table_from g t at (suc n) i o d e =
    let l : i < group_size g.merge = omega arith in
    rw ((d.1 i l).0, (d.1 i l).1) (ap (λ (ws : List ℕ). field_word (fields_of g.counts) (field_at (group_fields g.merge) i) ∷ ws) (table_from g t at n (i + 1) o d (omega arith)) ∙ sym (words_step g i o l))

pub table_is : (g : Group) (t : List ℕ) (at : ℕ) (x : fields.Fields) (n : ℕ) → Good g → Described g.merge t at → x ≡ fields_of g.counts → n ≡ group_size g.merge → table_words t at x n 0 ≡ group_words g
table_is g t at x n o d e h = rw (e, h) (table_from g t at (group_size g.merge) 0 o d (omega arith))
