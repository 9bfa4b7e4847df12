-- Words that a reader accepts are exactly the image of the memory that was read.
use mathlib.Core.Path.{◌≡◌, refl, sym, ap, ap₂, ◌∙◌}
use mathlib.Core.Bool.{true}
use mathlib.Core.List.{List, [], ◌∷◌, ◌++◌, append_assoc}
use Prim.Native.Nat.{ℕ, zero, suc, ◌+◌, ◌-◌, ◌*◌, ◌/◌, ◌%◌, ◌≤◌, ◌<◌}
use native.Mathlib.Nat.{zero-add, suc-add, zero-mul, suc-mul, add_comm}
use native.Mathlib.Decide.{dec_lt}
use native.Mathlib.Omega.{arith}
use borrow.Author.Tests.{lt-ltb, ltb-true}
use lib.ListN.{length, get_or, take, drop, length-append, length-drop, get_or-append, get_or-eq_default}
use lib.Seq.{get_or-take, get_or-drop, get_or-append-add, ext_get_or, length-take-le, take_at, drop_at}
use Rattle.laws.proofs.Lists.{Bytes}
use Rattle.answer.specs.declared.Answer.{Answer}
use Rattle.group.specs.declared.Group.{Group}
use Rattle.group.specs.Group.{valid_merge}
use Rattle.group_codes.specs.Pack.{layouts_of, packed, four_merges, unpacked}
use Rattle.group.proofs.Laws.{Eight}
use Rattle.group_codes.proofs.Packing.{code_merge_lem, pack_unpack}
use Rattle.group.proofs.Changing.{Good}
use Rattle.group_fields.proofs.Merges.{merge_byte}
use Rattle.geometry.specs.Geometry.{stride}
use Rattle.meter_memory.specs.Rows.{group_at, with_group}
use Rattle.word.specs.Step.{Step}
use Rattle.word.specs.Word.{go, next, payload, below}
use Rattle.image_format.specs.Image.{word, layout_kind, layout_at, group_words, groups_words, four_words, row_words, rows_words}
use Rattle.image_format.specs.Write.{all_valid, valid_rows, group_size}
use Rattle.image_format.specs.Read.{merges_at, check_slots, check_groups, check_four, check_fours, read_group, read_groups, after_groups, read_fours, after_fours, read_rows}
use Rattle.word.proofs.Laws.{both}
use Rattle.image_laws.proofs.Rows.{with_length, with_before, with_counts, with_merge, with_after, merges_from}
use Rattle.word.proofs.Passed.{passed, below_is}
use Rattle.image_laws.proofs.Accepting.{group_is}

-- a group that was stored, and the groups before it
module _ (w g : ℕ) (row : List ℕ) (x : Group) (o : Eight x.counts) (a : 8 * g + 8 ≤ w) (b : w + g < length row) where
  pub stored_length : length (with_group w row g x) ≡ length row
  unfolding with_group
  stored_length = with_length w g row x.counts x.merge o.long a b

  pub stored_here : group_at w (with_group w row g x) g ≡ x
  unfolding group_at with_group
  stored_here =
      let y = with_group w row g x in
      let l = stored_length in
      let n = length-take-le 8 (drop (8 * g) y) (omega (arith, length-drop (8 * g) y, l)) in
      ap₂ (λ (c : List ℕ) (m : ℕ). record { counts = c; merge = m })
      (ext_get_or 0 (take 8 (drop (8 * g) y)) x.counts (n ∙ sym o.long)
      (λ i h. get_or-take 8 (drop (8 * g) y) i 0 (omega (arith, n)) ∙ get_or-drop (8 * g) y i 0 ∙ with_counts w g row x.counts x.merge o.long a b i (omega (arith, n))))
      (with_merge w g row x.counts x.merge o.long a b)

  pub stored_before : (j : ℕ) → j < g → group_at w (with_group w row g x) j ≡ group_at w row j
  unfolding group_at with_group
  stored_before j h =
      let y = with_group w row g x in
      let l = stored_length in
      let n = length-take-le 8 (drop (8 * j) y) (omega (arith, length-drop (8 * j) y, l)) in
      let k = length-take-le 8 (drop (8 * j) row) (omega (arith, length-drop (8 * j) row)) in
      ap₂ (λ (c : List ℕ) (m : ℕ). record { counts = c; merge = m })
      (ext_get_or 0 (take 8 (drop (8 * j) y)) (take 8 (drop (8 * j) row)) (n ∙ sym k)
      (λ i z. get_or-take 8 (drop (8 * j) y) i 0 (omega (arith, n)) ∙ get_or-drop (8 * j) y i 0
      ∙ with_before w g row x.counts x.merge o.long a b (8 * j + i) (omega (arith, n))
      ∙ sym (get_or-drop (8 * j) row i 0) ∙ sym (get_or-take 8 (drop (8 * j) row) i 0 (omega (arith, n)))))
      (with_after w g row x.counts x.merge o.long a b (w + j) (omega arith) (λ e. omega arith))

-- groups whose words have passed
record Groups (ms : List ℕ) (g w : ℕ) (row words : List ℕ) (p q : ℕ) (new : List ℕ) : Type 0 where
  position : q ≡ after_groups ms p
  long : length new ≡ length row
  kept : (j : ℕ) → j < g → group_at w new j ≡ group_at w row j
  good : (j : ℕ) → g ≤ j → j < g + length ms → Good (group_at w new j)
  merges : merges_from (length ms) g w new ≡ ms
  is : drop p words ≡ groups_words (length ms) g w new ++ drop q words

groups_are : (ms : List ℕ) (g w : ℕ) (row words : List ℕ) (p q : ℕ) → all_valid ms ≡ true → 8 * (g + length ms) ≤ w → w + (g + length ms) ≤ length row
    → check_groups ms words p ≡ go q → Groups ms g w row words p q (read_groups ms g w row words p)
unfolding all_valid check_groups read_groups after_groups groups_words merges_from
groups_are [] g w row words p q v a b e =
    let z : p ≡ q = ap (λ (s : Step). s.position) e in
    record { position = sym z; long = refl; kept = λ j h. refl; good = λ j h k. absurd (omega arith); merges = refl; is = ap (λ (x : ℕ). drop x words) z }
groups_are (m ∷ ms) g w row words p q v a b e =
    let t = passed (check_slots 8 0 m words p) (λ r. check_groups ms words r) q e in
    let r = (check_slots 8 0 m words p).position in
    let va = both (valid_merge m) (all_valid ms) v in
    let d = group_is m words p r va.0 t.here in
    let x = read_group m words p in
    let one = with_group w row g x in
    let l = stored_length w g row x d.good.eight (omega arith) (omega arith) in
    let c : check_groups ms words (p + group_size m) ≡ go q = ap (check_groups ms words) (sym d.position) ∙ t.after in
    let y = groups_are ms (g + 1) w one words (p + group_size m) q va.1 (omega arith) (omega (arith, l)) c in
    let new = read_groups ms (g + 1) w one words (p + group_size m) in
    let here : group_at w new g ≡ x = y.kept g (omega arith) ∙ stored_here w g row x d.good.eight (omega arith) (omega arith) in
    record {
      position = y.position;
      long = y.long ∙ l;
      kept = λ j h. y.kept j (omega arith) ∙ stored_before w g row x d.good.eight (omega arith) (omega arith) j h;
      good = λ j h k. elim (dec_lt g j) [ yes i ↦ y.good j (omega arith) (omega arith) | no i ↦ let f : j ≡ g = omega arith in rw (f, here) d.good ];
      merges = ap₂ (λ (u : ℕ) (us : List ℕ). u ∷ us) (ap (λ (u : Group). u.merge) here ∙ d.merge) y.merges;
      is =
          d.is
          ∙ ap₂ (λ (u : Group) (us : List ℕ). group_words u ++ us) (sym here) (ap (λ (i : ℕ). drop i words) d.position ∙ y.is)
          ∙ sym (append_assoc (group_words (group_at w new g)) (groups_words (length ms) (g + 1) w new) (drop q words));
    }

-- the merge bytes of a layout code
four_valid : (c : ℕ) → c < layouts_of 4 → all_valid (unpacked c).merges ≡ true
unfolding unpacked four_merges all_valid
four_valid c h =
    rw (
      lt-ltb c (layouts_of 4) h,
      (code_merge_lem (c / layouts_of 3) (omega arith)).0,
      (code_merge_lem (c / layouts_of 2 % 26) (omega arith)).0,
      (code_merge_lem (c / 26 % 26) (omega arith)).0,
      (code_merge_lem (c % 26) (omega arith)).0,
    )

four_long : (c : ℕ) → c < layouts_of 4 → length (unpacked c).merges ≡ 4
unfolding unpacked four_merges
four_long c h = rw (lt-ltb c (layouts_of 4) h)

code_of : List ℕ → ℕ
code_of ms = (packed (get_or ms 0 0) (get_or ms 1 0) (get_or ms 2 0) (get_or ms 3 0)).value

four_code_lem : (c : ℕ) → c < layouts_of 4 → code_of (unpacked c).merges ≡ c
unfolding unpacked four_merges code_of
four_code_lem c h = rw (lt-ltb c (layouts_of 4) h) (ap (λ (x : Answer). x.value) (pack_unpack c h))

layout_of : (w : ℕ) (row : List ℕ) (g : ℕ) → layout_at w row g ≡ code_of (merges_from 4 g w row)
unfolding layout_at merges_from code_of
layout_of w row g =
    let m : ℕ → ℕ = λ x. (group_at w row x).merge in
    let x : g + 2 ≡ g + 1 + 1 = omega arith in
    let y : g + 3 ≡ g + 1 + 1 + 1 = omega arith in
    ap₂ (λ (x y : ℕ). (packed (m g) (m (g + 1)) (m x) (m y)).value) x y

-- 32 slots whose words have passed
record Fours (n g w : ℕ) (row words : List ℕ) (p q : ℕ) (new : List ℕ) : Type 0 where
  position : q ≡ after_fours n words p
  long : length new ≡ length row
  kept : (j : ℕ) → j < g → group_at w new j ≡ group_at w row j
  good : (j : ℕ) → g ≤ j → j < g + 4 * n → Good (group_at w new j)
  is : drop p words ≡ row_words n g w new ++ drop q words

four_are : (g w : ℕ) (row words : List ℕ) (p q : ℕ) → 8 * (g + 4) ≤ w → w + (g + 4) ≤ length row → check_four words p ≡ go q
    → (Groups (merges_at words p) g w row words (p + 1) q (read_groups (merges_at words p) g w row words (p + 1)))
    × (drop p words ≡ four_words w (read_groups (merges_at words p) g w row words (p + 1)) g ++ drop q words)
    × (length (merges_at words p) ≡ 4)
unfolding check_four four_words merges_at word
four_are g w row words p q a b e =
    let t = passed (below words p layout_kind (layouts_of 4)) (λ r. check_groups (merges_at words p) words r) q e in
    let r = (below words p layout_kind (layouts_of 4)).position in
    let d = below_is words p layout_kind (layouts_of 4) r t.here in
    let c = payload words p in
    let l = ltb-true c (layouts_of 4) d.true_of in
    let k = four_long c l in
    let ms = (unpacked c).merges in
    let a' : 8 * (g + length ms) ≤ w = rw k a in
    let b' : w + (g + length ms) ≤ length row = rw k b in
    let y = groups_are ms g w row words (p + 1) q (four_valid c l) a' b' (ap (check_groups ms words) (sym d.position) ∙ t.after) in
    let new = read_groups ms g w row words (p + 1) in
    let m : merges_from 4 g w new ≡ ms = ap (λ (n : ℕ). merges_from n g w new) (sym k) ∙ y.merges in
    let f : layout_at w new g ≡ c = layout_of w new g ∙ ap code_of m ∙ four_code_lem c l in
    let i : drop (p + 1) words ≡ groups_words 4 g w new ++ drop q words = y.is ∙ ap (λ (n : ℕ). groups_words n g w new ++ drop q words) k in
    (y, d.is ∙ ap₂ (λ (u : ℕ) (us : List ℕ). word layout_kind u ∷ us) (sym f) i, k)

groups_cong : (n g w : ℕ) (row other : List ℕ) → ((j : ℕ) → j < g + n → group_at w row j ≡ group_at w other j) → groups_words n g w row ≡ groups_words n g w other
unfolding groups_words
groups_cong zero g w row other f = refl
groups_cong (suc n) g w row other f =
    ap₂ (λ (u : Group) (us : List ℕ). group_words u ++ us) (f g (omega arith)) (groups_cong n (g + 1) w row other (λ j h. f j (omega arith)))

four_cong : (g w : ℕ) (row other : List ℕ) → ((j : ℕ) → j < g + 4 → group_at w row j ≡ group_at w other j) → four_words w row g ≡ four_words w other g
unfolding four_words layout_at
four_cong g w row other f =
    let m : (j : ℕ) → j < g + 4 → (group_at w row j).merge ≡ (group_at w other j).merge = λ j h. ap (λ (x : Group). x.merge) (f j h) in
    ap₂ (λ (u : ℕ) (us : List ℕ). word layout_kind u ∷ us)
    (ap (λ (x : ℕ). (packed x (group_at w row (g + 1)).merge (group_at w row (g + 2)).merge (group_at w row (g + 3)).merge).value) (m g (omega arith))
    ∙ ap (λ (x : ℕ). (packed (group_at w other g).merge x (group_at w row (g + 2)).merge (group_at w row (g + 3)).merge).value) (m (g + 1) (omega arith))
    ∙ ap (λ (x : ℕ). (packed (group_at w other g).merge (group_at w other (g + 1)).merge x (group_at w row (g + 3)).merge).value) (m (g + 2) (omega arith))
    ∙ ap (λ (x : ℕ). (packed (group_at w other g).merge (group_at w other (g + 1)).merge (group_at w other (g + 2)).merge x).value) (m (g + 3) (omega arith)))
    (groups_cong 4 g w row other f)

fours_are : (n g w : ℕ) (row words : List ℕ) (p q : ℕ) → 8 * (g + 4 * n) ≤ w → w + (g + 4 * n) ≤ length row → check_fours n words p ≡ go q
    → Fours n g w row words p q (read_fours n g w row words p)
unfolding check_fours read_fours after_fours row_words
fours_are zero g w row words p q a b e =
    let z : p ≡ q = ap (λ (s : Step). s.position) e in
    record { position = sym z; long = refl; kept = λ j h. refl; good = λ j h k. absurd (omega arith); is = ap (λ (x : ℕ). drop x words) z }
fours_are (suc n) g w row words p q a b e =
    let t = passed (check_four words p) (λ r. check_fours n words r) q e in
    let r = (check_four words p).position in
    let s = four_are g w row words p r (omega arith) (omega arith) t.here in
    let ms = merges_at words p in
    let one = read_groups ms g w row words (p + 1) in
    let l = s.0.long in
    let k = s.2 in
    let c : check_fours n words (after_groups ms (p + 1)) ≡ go q = ap (check_fours n words) (sym s.0.position) ∙ t.after in
    let y = fours_are n (g + 4) w one words (after_groups ms (p + 1)) q (omega arith) (omega (arith, l)) c in
    let new = read_fours n (g + 4) w one words (after_groups ms (p + 1)) in
    record {
      position = y.position;
      long = y.long ∙ l;
      kept = λ j h. y.kept j (omega arith) ∙ s.0.kept j h;
      good = λ j h i. elim (dec_lt j (g + 4)) [
        | yes z ↦ rw (y.kept j z) (s.0.good j h (omega (arith, k)))
        | no z ↦ y.good j (omega arith) (omega arith)
      ];
      is =
          s.1
          ∙ ap₂ (λ (u us : List ℕ). u ++ us) (four_cong g w one new (λ j h. sym (y.kept j h))) (ap (λ (i : ℕ). drop i words) s.0.position ∙ y.is)
          ∙ sym (append_assoc (four_words w new g) (row_words n (g + 4) w new) (drop q words));
    }

all_valid_lem : (ms : List ℕ) → ((i : ℕ) → i < length ms → valid_merge (get_or ms i 0) ≡ true) → all_valid ms ≡ true
unfolding all_valid
all_valid_lem [] f = refl
all_valid_lem (m ∷ ms) f = rw (f 0 (omega arith), all_valid_lem ms (λ i h. f (suc i) (omega arith)))

-- a row of bytes, by its groups; and bytes one after another
row_bytes : (w : ℕ) (row : List ℕ) → w % 32 ≡ 0 → length row ≡ w + w / 8 → ((j : ℕ) → j < w / 8 → Good (group_at w row j)) → Bytes row
unfolding group_at
row_bytes w row a b f i = elim (dec_lt i w) [
  | yes l ↦
      let e : 8 * (i / 8) + i % 8 ≡ i = omega arith in
      let small = (f (i / 8) (omega arith)).eight.small (i % 8) in
      rw (get_or-take 8 (drop (8 * (i / 8)) row) (i % 8) 0 (omega arith), get_or-drop (8 * (i / 8)) row (i % 8) 0, e) at small
  | no l ↦ elim (dec_lt i (w + w / 8)) [
    | yes m ↦
        let e : w + (i - w) ≡ i = omega arith in
        rw e at (merge_byte (get_or row (w + (i - w)) 0) (f (i - w) (omega arith)).merges)
    | no m ↦ rw (get_or-eq_default row 0 {n = i} (omega arith)) (omega arith)
  ]
]

bytes_append : (xs ys : List ℕ) → Bytes xs → Bytes ys → Bytes (xs ++ ys)
bytes_append xs ys f g i = elim (dec_lt i (length xs)) [
  | yes l ↦ rw (get_or-append xs ys 0 i l) (f i)
  | no l ↦
      let e : length xs + (i - length xs) ≡ i = omega arith in
      let here = get_or-append-add xs ys (i - length xs) 0 in
      rw (← e, here) (g (i - length xs))
]

-- a row whose words have passed
record Row (w : ℕ) (row words : List ℕ) (p q : ℕ) (new : List ℕ) : Type 0 where
  position : q ≡ after_fours (w / 32) words p
  long : length new ≡ length row
  bytes : Bytes new
  merges : all_valid (drop w new) ≡ true
  is : drop p words ≡ row_words (w / 32) 0 w new ++ drop q words

row_is : (w : ℕ) (row words : List ℕ) (p q : ℕ) → w % 32 ≡ 0 → length row ≡ stride w → check_fours (w / 32) words p ≡ go q → Row w row words p q (read_fours (w / 32) 0 w row words p)
unfolding stride group_at
row_is w row words p q a b e =
    let y = fours_are (w / 32) 0 w row words p q (omega arith) (omega arith) e in
    let new = read_fours (w / 32) 0 w row words p in
    let l = y.long in
    record {
      position = y.position;
      long = l;
      bytes = row_bytes w new a (omega arith) (λ j h. y.good j (omega arith) (omega arith));
      merges = all_valid_lem (drop w new) (λ i h. rw (get_or-drop w new i 0) (y.good i (omega arith) (omega (arith, length-drop w new))).merges);
      is = y.is;
    }

record Split (a b : ℕ) (words : List ℕ) (p q : ℕ) : Type 0 where
  middle : ℕ
  first : check_fours a words p ≡ go middle
  second : check_fours b words middle ≡ go q

fours_split : (a b : ℕ) (words : List ℕ) (p q : ℕ) → check_fours (a + b) words p ≡ go q → Split a b words p q
unfolding check_fours next
fours_split zero b words p q e = record { middle = p; first = refl; second = ap (λ (n : ℕ). check_fours n words p) (sym (zero-add b)) ∙ e }
fours_split (suc a) b words p q e =
    let t = passed (check_four words p) (λ r. check_fours (a + b) words r) q (ap (λ (n : ℕ). check_fours n words p) (sym (suc-add a b)) ∙ e) in
    let s = fours_split a b words (check_four words p).position q t.after in
    record { middle = s.middle; first = ap (λ (x : Step). next x (λ r. check_fours a words r)) t.here ∙ next_go (check_four words p).position (λ r. check_fours a words r) ∙ s.first; second = s.second }
  where
    next_go : (p : ℕ) (f : ℕ → Step) → next (go p) f ≡ f p
    next_go p f = refl

-- rows whose words have passed
pub record Rows (n w : ℕ) (old words : List ℕ) (p q : ℕ) (new : List ℕ) : Type 0 where
  pub long : length new ≡ length old
  pub bytes : Bytes new
  pub merges : valid_rows n w new ≡ true
  pub is : drop p words ≡ rows_words n w new ++ drop q words

pub rows_are : (n w : ℕ) (old words : List ℕ) (p q : ℕ) → w % 32 ≡ 0 → length old ≡ n * stride w → check_fours (n * (w / 32)) words p ≡ go q
    → Rows n w old words p q (read_rows n w old words p)
unfolding read_rows valid_rows rows_words check_fours
rows_are zero w old words p q a b e =
    let z : p ≡ q = ap (λ (s : Step). s.position) (ap (λ (k : ℕ). check_fours k words p) (sym (zero-mul (w / 32))) ∙ e) in
    let none : length old ≡ 0 = b ∙ zero-mul (stride w) in
    record {
      long = refl;
      bytes = λ i. rw (get_or-eq_default old 0 {n = i} (omega arith)) (omega arith);
      merges = refl;
      is = ap (λ (x : ℕ). drop x words) z;
    }
rows_are (suc n) w old words p q a b e =
    let s = stride w in
    let m = suc-mul n s in
    let c : w / 32 + n * (w / 32) ≡ suc n * (w / 32) = add_comm (w / 32) (n * (w / 32)) ∙ sym (suc-mul n (w / 32)) in
    let t = fours_split (w / 32) (n * (w / 32)) words p q (ap (λ (k : ℕ). check_fours k words p) c ∙ e) in
    let l = length-take-le s old (omega arith) in
    let r = row_is w (take s old) words p t.middle a l t.first in
    let row = read_fours (w / 32) 0 w (take s old) words p in
    let k : check_fours (n * (w / 32)) words (after_fours (w / 32) words p) ≡ go q = ap (check_fours (n * (w / 32)) words) (sym r.position) ∙ t.second in
    let d = length-drop s old in
    let y = rows_are n w (drop s old) words (after_fours (w / 32) words p) q a (omega arith) k in
    let others = read_rows n w (drop s old) words (after_fours (w / 32) words p) in
    let u : take s (row ++ others) ≡ row = take_at row others s (r.long ∙ l) in
    let v : drop s (row ++ others) ≡ others = drop_at row others s (r.long ∙ l) in
    record {
      long = length-append row others ∙ omega (arith, r.long, y.long);
      bytes = bytes_append row others r.bytes y.bytes;
      merges = rw (u, v, r.merges, y.merges);
      is = rw (u, v) (r.is ∙ ap (λ (x : List ℕ). row_words (w / 32) 0 w row ++ x) (ap (λ (i : ℕ). drop i words) r.position ∙ y.is) ∙ sym (append_assoc (row_words (w / 32) 0 w row) (rows_words n w others) (drop q words)));
    }
