-- What the writer wrote of a meter, read back, is that meter.
use mathlib.Core.Path.{◌≡◌, refl, sym, ap, ap₂, subst, ◌∙◌}
use mathlib.Core.Bool.{true}
use mathlib.Core.List.{List, [], ◌∷◌, ◌++◌, append_assoc}
use Prim.Native.Nat.{ℕ, zero, suc, ◌+◌, ◌-◌, ◌*◌, ◌/◌, ◌%◌, ◌≤◌, ◌<◌}
use native.Mathlib.Nat.{add-zero, zero-add, suc-add, add_comm, zero-mul, suc-mul}
use native.Mathlib.Decide.{dec_lt}
use native.Mathlib.Omega.{arith}
use lib.Dec.{eqb}
use borrow.Author.Tests.{eqb-false}
use lib.ListN.{length, get_or, take, drop, set, length-append, length-drop, length-set, get_or-append, take-append-drop}
use lib.Seq.{get_or-take, get_or-drop, get_or-append-add, get_or-set_same, get_or-set_other, ext_get_or, length-take-le}
use Rattle.laws.proofs.Lists.{Bytes}
use Rattle.group.specs.declared.Group.{Group}
use Rattle.group.specs.Group.{valid_merge}
use Rattle.group_codes.specs.Pack.{Unpacked}
use Rattle.group_codes.specs.Pack.{layouts_of, four_code, packed, unpacked}
use Rattle.group_codes.proofs.Packing.{unpack_pack}
use Rattle.group.proofs.Changing.{Good}
use Rattle.geometry.specs.Geometry.{stride}
use Rattle.meter_memory.specs.Rows.{group_at, with_group}
use Rattle.laws.proofs.Lists.{bytes_drop, bytes_take}
use Rattle.word.specs.Step.{Step}
use Rattle.word.specs.Word.{go, next, payload}
use Rattle.image_format.specs.Image.{word, layout_kind, layout_at, group_words, groups_words, four_words, row_words, rows_words}
use Rattle.image_format.specs.Write.{all_valid, valid_rows, group_size}
use Rattle.image_format.specs.Read.{merges_at, check_groups, check_four, check_fours, read_groups, after_groups, read_fours, after_fours, read_rows}
use Rattle.word.proofs.Laws.{both}
use Rattle.image_writer.proofs.Laws.{layout_lt}
use Rattle.image_group_checker.proofs.Digits.{here, payload_here, below_here}
use borrow.Table.Steps.{cases}
use Rattle.image_reader.proofs.Restoring.{group_restored}

-- a row that is another up to group g
pub record Same (w g : ℕ) (row source : List ℕ) : Type 0 where
  pub long : length row ≡ length source
  pub counts : (i : ℕ) → i < 8 * g → get_or row i 0 ≡ get_or source i 0
  pub merges : (i : ℕ) → i < g → get_or row (w + i) 0 ≡ get_or source (w + i) 0

module _ (w g : ℕ) (row : List ℕ) (xs : List ℕ) (m : ℕ) (eight : length xs ≡ 8) (a : 8 * g + 8 ≤ w) (b : w + g < length row) where
  abbrev front : List ℕ
  front = take (8 * g) row ++ xs

  front_length : length front ≡ 8 * g + 8
  front_length = rw (length-append (take (8 * g) row) xs, length-take-le (8 * g) row (omega arith), eight)

  pub with_length : length (set (front ++ drop (8 * g + 8) row) (w + g) m) ≡ length row
  with_length =
      length-set (front ++ drop (8 * g + 8) row) (w + g) m
      ∙ length-append front (drop (8 * g + 8) row)
      ∙ omega (arith, front_length, length-drop (8 * g + 8) row)

  pub with_before : (i : ℕ) → i < 8 * g → get_or (set (front ++ drop (8 * g + 8) row) (w + g) m) i 0 ≡ get_or row i 0
  with_before i h =
      get_or-set_other (front ++ drop (8 * g + 8) row) (w + g) i m 0 (λ e. omega arith)
      ∙ get_or-append front (drop (8 * g + 8) row) 0 i (omega (arith, front_length))
      ∙ get_or-append (take (8 * g) row) xs 0 i (omega (arith, length-take-le (8 * g) row (omega arith)))
      ∙ get_or-take (8 * g) row i 0 h

  pub with_counts : (j : ℕ) → j < 8 → get_or (set (front ++ drop (8 * g + 8) row) (w + g) m) (8 * g + j) 0 ≡ get_or xs j 0
  with_counts j h =
      let t = length-take-le (8 * g) row (omega arith) in
      get_or-set_other (front ++ drop (8 * g + 8) row) (w + g) (8 * g + j) m 0 (λ e. omega arith)
      ∙ get_or-append front (drop (8 * g + 8) row) 0 (8 * g + j) (omega (arith, front_length))
      ∙ (rw t at (get_or-append-add (take (8 * g) row) xs j 0))

  pub with_merge : get_or (set (front ++ drop (8 * g + 8) row) (w + g) m) (w + g) 0 ≡ m
  with_merge = get_or-set_same (front ++ drop (8 * g + 8) row) (w + g) m 0 (omega (arith, length-append front (drop (8 * g + 8) row), front_length, length-drop (8 * g + 8) row))

  pub with_after : (i : ℕ) → 8 * g + 8 ≤ i → (i ≡ w + g → ⊥) → get_or (set (front ++ drop (8 * g + 8) row) (w + g) m) i 0 ≡ get_or row i 0
  with_after i h n =
      let j = i - (8 * g + 8) in
      let e : 8 * g + 8 + j ≡ i = omega arith in
      get_or-set_other (front ++ drop (8 * g + 8) row) (w + g) i m 0 n
      ∙ ap (λ (k : ℕ). get_or (front ++ drop (8 * g + 8) row) k 0) (sym e)
      ∙ (rw front_length at (get_or-append-add front (drop (8 * g + 8) row) j 0))
      ∙ get_or-drop (8 * g + 8) row j 0
      ∙ ap (λ (k : ℕ). get_or row k 0) e

pub same_more : (w g : ℕ) (row source : List ℕ) → 8 * g + 8 ≤ w → w + g < length source → Same w g row source → Same w (g + 1) (with_group w row g (group_at w source g)) source
unfolding with_group group_at
same_more w g row source a b s =
    let xs = take 8 (drop (8 * g) source) in
    let m = get_or source (w + g) 0 in
    let c = s.long in
    let eight : length xs ≡ 8 = length-take-le 8 (drop (8 * g) source) (omega (arith, length-drop (8 * g) source)) in
    let k : w + g < length row = omega arith in
    record {
      long = with_length w g row xs m eight a k ∙ s.long;
      counts = λ i h. elim (dec_lt i (8 * g)) [
        | yes l ↦ with_before w g row xs m eight a k i l ∙ s.counts i l
        | no l ↦
            let j = i - 8 * g in
            let e : 8 * g + j ≡ i = omega arith in
            ap (λ (x : ℕ). get_or (set (take (8 * g) row ++ xs ++ drop (8 * g + 8) row) (w + g) m) x 0) (sym e)
            ∙ with_counts w g row xs m eight a k j (omega arith)
            ∙ get_or-take 8 (drop (8 * g) source) j 0 (omega arith) ∙ get_or-drop (8 * g) source j 0
            ∙ ap (λ (x : ℕ). get_or source x 0) e
      ];
      merges = λ i h. elim (dec_lt i g) [
        | yes l ↦ with_after w g row xs m eight a k (w + i) (omega arith) (λ e. omega arith) ∙ s.merges i l
        | no l ↦ let e : i ≡ g = omega arith in rw e (with_merge w g row xs m eight a k)
      ];
    }

pub same_none : (w : ℕ) (row source : List ℕ) → length row ≡ length source → Same w 0 row source
same_none w row source e = record { long = e; counts = λ i h. absurd (omega arith); merges = λ i h. absurd (omega arith) }

pub same_all : (w g : ℕ) (row source : List ℕ) → w ≡ 8 * g → length source ≡ w + g → Same w g row source → row ≡ source
same_all w g row source e l s =
    ext_get_or 0 row source s.long (λ i h. elim (dec_lt i (8 * g)) [
      | yes k ↦ s.counts i k
      | no k ↦
          let f : w + (i - w) ≡ i = omega arith in
          let c = s.long in
          rw f at (s.merges (i - w) (omega arith))
    ])

-- groups that were written, read back into a row
unfoldable pub merges_from : ℕ → ℕ → ℕ → List ℕ → List ℕ
merges_from zero g w row = []
merges_from (suc n) g w row = (group_at w row g).merge ∷ merges_from n (g + 1) w row

-- every group of a row is valid, and the row has them
pub record Sound (w : ℕ) (row : List ℕ) : Type 0 where
  pub whole : w % 32 ≡ 0
  pub size : length row ≡ w + w / 8
  pub groups : (g : ℕ) → g < w / 8 → Good (group_at w row g)

record Groups (n g w : ℕ) (source row words : List ℕ) (p : ℕ) (rest : List ℕ) : Type 0 where
  checks : check_groups (merges_from n g w source) words p ≡ go (after_groups (merges_from n g w source) p)
  after : drop (after_groups (merges_from n g w source) p) words ≡ rest
  same : Same w (g + n) (read_groups (merges_from n g w source) g w row words p) source

groups_restored : (n g w : ℕ) (source row words : List ℕ) (p : ℕ) (rest : List ℕ) → Sound w source → g + n ≤ w / 8 → Same w g row source
    → drop p words ≡ groups_words n g w source ++ rest → Groups n g w source row words p rest
unfolding groups_words check_groups after_groups read_groups merges_from next
groups_restored zero g w source row words p rest o i s e = record { checks = refl; after = e; same = rw (add-zero g) s }
groups_restored (suc n) g w source row words p rest o i s e =
    let x = group_at w source g in
    let z = o.size in
    let r = group_restored x words p (groups_words n (g + 1) w source ++ rest) (o.groups g (omega arith)) (e ∙ append_assoc (group_words x) (groups_words n (g + 1) w source) rest) in
    let t = same_more w g row source (omega arith) (omega arith) s in
    let f : g + 1 + n ≡ g + suc n = omega arith in
    let q = groups_restored n (g + 1) w source (with_group w row g x) words (p + group_size x.merge) rest o (omega arith) t r.after in
    record {
      checks = rw r.checks q.checks;
      after = q.after;
      same =
          subst (λ (y : Group). Same w (g + suc n) (read_groups (merges_from n (g + 1) w source) (g + 1) w (with_group w row g y) words (p + group_size x.merge)) source) (sym r.is)
          (subst (λ (k : ℕ). Same w k (read_groups (merges_from n (g + 1) w source) (g + 1) w (with_group w row g x) words (p + group_size x.merge)) source) f q.same);
    }

-- 32 slots
packed_valid : (a b c d : ℕ) → valid_merge a ≡ true → valid_merge b ≡ true → valid_merge c ≡ true → valid_merge d ≡ true → (packed a b c d).value ≡ four_code a b c d
unfolding packed
packed_valid a b c d va vb vc vd = rw (va, vb, vc, vd)

layout_code : (w : ℕ) (row : List ℕ) (g : ℕ) → Sound w row → g + 4 ≤ w / 8 → (unpacked (layout_at w row g)).merges ≡ merges_from 4 g w row
unfolding layout_at merges_from
layout_code w row g o i =
    let a = (o.groups g (omega arith)).merges in
    let b = (o.groups (g + 1) (omega arith)).merges in
    let c = (o.groups (g + 2) (omega arith)).merges in
    let d = (o.groups (g + 3) (omega arith)).merges in
    let m : ℕ → ℕ = λ x. (group_at w row x).merge in
    let x : g + 2 ≡ g + 1 + 1 = omega arith in
    let y : g + 3 ≡ g + 1 + 1 + 1 = omega arith in
    ap (λ (k : ℕ). (unpacked k).merges) (packed_valid (m g) (m (g + 1)) (m (g + 2)) (m (g + 3)) a b c d)
    ∙ ap (λ (v : Unpacked). v.merges) (unpack_pack (m g) (m (g + 1)) (m (g + 2)) (m (g + 3)) a b c d)
    ∙ ap₂ (λ (x y : ℕ). m g ∷ m (g + 1) ∷ m x ∷ m y ∷ []) x y

record Four (g w : ℕ) (source row words : List ℕ) (p : ℕ) (rest : List ℕ) : Type 0 where
  checks : check_four words p ≡ go (after_groups (merges_at words p) (p + 1))
  after : drop (after_groups (merges_at words p) (p + 1)) words ≡ rest
  same : Same w (g + 4) (read_groups (merges_at words p) g w row words (p + 1)) source

four_restored : (g w : ℕ) (source row words : List ℕ) (p : ℕ) (rest : List ℕ) → Sound w source → g + 4 ≤ w / 8 → Same w g row source
    → drop p words ≡ four_words w source g ++ rest → Four g w source row words p rest
unfolding four_words check_four merges_at next
four_restored g w source row words p rest o i s e =
    let x = layout_at w source g in
    let l = layout_lt w source g in
    let tail = groups_words 4 g w source ++ rest in
    let h = here words p (word layout_kind x) tail e in
    let y : payload words p ≡ x = payload_here words p layout_kind x tail e (omega (arith, l)) in
    let m : (unpacked (payload words p)).merges ≡ merges_from 4 g w source = ap (λ (c : ℕ). (unpacked c).merges) y ∙ layout_code w source g o i in
    let q = groups_restored 4 g w source row words (p + 1) rest o i s h.after in
    record {
      checks = rw (below_here words p layout_kind x tail e (omega (arith, l)) (layouts_of 4) l, m) q.checks;
      after = rw m q.after;
      same = rw m q.same;
    }

record Fours (n g w : ℕ) (source row words : List ℕ) (p : ℕ) (rest : List ℕ) : Type 0 where
  checks : check_fours n words p ≡ go (after_fours n words p)
  after : drop (after_fours n words p) words ≡ rest
  same : Same w (g + 4 * n) (read_fours n g w row words p) source

fours_restored : (n g w : ℕ) (source row words : List ℕ) (p : ℕ) (rest : List ℕ) → Sound w source → g + 4 * n ≤ w / 8 → Same w g row source
    → drop p words ≡ row_words n g w source ++ rest → Fours n g w source row words p rest
unfolding row_words check_fours after_fours read_fours next
fours_restored zero g w source row words p rest o i s e = record { checks = refl; after = e; same = rw (add-zero g) s }
fours_restored (suc n) g w source row words p rest o i s e =
    let r = four_restored g w source row words p (row_words n (g + 4) w source ++ rest) o (omega arith) s (e ∙ append_assoc (four_words w source g) (row_words n (g + 4) w source) rest) in
    let f : g + 4 + 4 * n ≡ g + 4 * suc n = omega arith in
    let m = merges_at words p in
    let q = fours_restored n (g + 4) w source (read_groups m g w row words (p + 1)) words (after_groups m (p + 1)) rest o (omega arith) r.same r.after in
    record { checks = rw r.checks q.checks; after = q.after; same = rw (← f) q.same }

-- a row that was written, read back into any row
record Row (w : ℕ) (source row words : List ℕ) (p : ℕ) (rest : List ℕ) : Type 0 where
  checks : check_fours (w / 32) words p ≡ go (after_fours (w / 32) words p)
  after : drop (after_fours (w / 32) words p) words ≡ rest
  is : read_fours (w / 32) 0 w row words p ≡ source

row_restored : (w : ℕ) (source row words : List ℕ) (p : ℕ) (rest : List ℕ) → Sound w source → length row ≡ length source
    → drop p words ≡ row_words (w / 32) 0 w source ++ rest → Row w source row words p rest
row_restored w source row words p rest o l e =
    let z = o.whole in
    let q = fours_restored (w / 32) 0 w source row words p rest o (omega arith) (same_none w row source l) e in
    let f : 0 + 4 * (w / 32) ≡ w / 8 = omega arith in
    record { checks = q.checks; after = q.after; is = same_all w (w / 8) _ source (omega arith) o.size (rw f at q.same) }

-- a memory of n rows whose groups are all valid
pub record SoundRows (n w : ℕ) (memory : List ℕ) : Type 0 where
  pub whole : w % 32 ≡ 0
  pub size : length memory ≡ n * stride w
  pub bytes : Bytes memory
  pub merges : valid_rows n w memory ≡ true

valid_at : (ms : List ℕ) (i : ℕ) → all_valid ms ≡ true → i < length ms → valid_merge (get_or ms i 0) ≡ true
unfolding all_valid
valid_at [] i v h = absurd (omega arith)
valid_at (m ∷ ms) zero v h = (both (valid_merge m) (all_valid ms) v).0
valid_at (m ∷ ms) (suc i) v h = valid_at ms i (both (valid_merge m) (all_valid ms) v).1 (omega arith)

sound_row : (w : ℕ) (row : List ℕ) → w % 32 ≡ 0 → length row ≡ stride w → Bytes row → all_valid (drop w row) ≡ true → Sound w row
unfolding stride group_at
sound_row w row a b c v =
    record {
      whole = a;
      size = omega arith;
      groups = λ g h.
          record {
            merges = rw (get_or-drop w row g 0) at (valid_at (drop w row) g v (omega (arith, length-drop w row)));
            eight = record { long = length-take-le 8 (drop (8 * g) row) (omega (arith, length-drop (8 * g) row)); small = bytes_take 8 (drop (8 * g) row) (bytes_drop (8 * g) row c) };
          };
    }

-- the first row of a meter, and the others
first_row : (n w : ℕ) (memory : List ℕ) → SoundRows (suc n) w memory → Sound w (take (stride w) memory)
unfolding valid_rows
first_row n w memory o =
    let l = suc-mul n (stride w) in
    let z = o.size in
    sound_row w (take (stride w) memory) o.whole (length-take-le (stride w) memory (omega arith)) (bytes_take (stride w) memory o.bytes)
    (both (all_valid (drop w (take (stride w) memory))) (valid_rows n w (drop (stride w) memory)) o.merges).0

other_rows : (n w : ℕ) (memory : List ℕ) → SoundRows (suc n) w memory → SoundRows n w (drop (stride w) memory)
unfolding valid_rows
other_rows n w memory o =
    let l = suc-mul n (stride w) in
    let z = o.size in
    record {
      whole = o.whole;
      size = omega (arith, length-drop (stride w) memory);
      bytes = bytes_drop (stride w) memory o.bytes;
      merges = (both (all_valid (drop w (take (stride w) memory))) (valid_rows n w (drop (stride w) memory)) o.merges).1;
    }

-- the position after n rows
unfoldable pub after_rows : ℕ → ℕ → List ℕ → ℕ → ℕ
after_rows zero w words p = p
after_rows (suc n) w words p = after_rows n w words (after_fours (w / 32) words p)

fours_add : (a b : ℕ) (words : List ℕ) (p q : ℕ) → check_fours a words p ≡ go q → check_fours (a + b) words p ≡ check_fours b words q
unfolding check_fours next
fours_add zero b words p q e = rw (zero-add b) (ap (λ (s : Step). check_fours b words s.position) e)
fours_add (suc a) b words p q e =
    let s = check_four words p in
    rw (suc-add a b)
    (cases (eqb s.status 0) (λ t. rw t (fours_add a b words s.position q (rw t at e)))
    (λ t. absurd (eqb-false s.status 0 t (ap (λ (x : Step). x.status) (rw t at e)))))

pub record Rows (n w : ℕ) (memory old words : List ℕ) (p : ℕ) (rest : List ℕ) : Type 0 where
  pub checks : check_fours (n * (w / 32)) words p ≡ go (after_rows n w words p)
  pub after : drop (after_rows n w words p) words ≡ rest
  pub is : read_rows n w old words p ≡ memory

pub rows_restored : (n w : ℕ) (memory old words : List ℕ) (p : ℕ) (rest : List ℕ) → SoundRows n w memory → length old ≡ length memory
    → drop p words ≡ rows_words n w memory ++ rest → Rows n w memory old words p rest
unfolding rows_words check_fours after_rows read_rows
rows_restored zero w memory old words p rest o l e =
    let z : length memory ≡ 0 = o.size ∙ zero-mul (stride w) in
    record { checks = ap (λ (k : ℕ). check_fours k words p) (zero-mul (w / 32)); after = e; is = ext_get_or 0 old memory l (λ i h. absurd (omega arith)) }
rows_restored (suc n) w memory old words p rest o l e =
    let s = stride w in
    let row = row_words (w / 32) 0 w (take s memory) in
    let m = suc-mul n s in
    let z = o.size in
    let r = row_restored w (take s memory) (take s old) words p (rows_words n w (drop s memory) ++ rest) (first_row n w memory o)
    (length-take-le s old (omega arith) ∙ sym (length-take-le s memory (omega arith))) (e ∙ append_assoc row (rows_words n w (drop s memory)) rest) in
    let q = rows_restored n w (drop s memory) (drop s old) words (after_fours (w / 32) words p) rest (other_rows n w memory o)
    (omega (arith, length-drop s old, length-drop s memory)) r.after in
    let c : suc n * (w / 32) ≡ w / 32 + n * (w / 32) = suc-mul n (w / 32) ∙ add_comm (n * (w / 32)) (w / 32) in
    record {
      checks = ap (λ (k : ℕ). check_fours k words p) c ∙ fours_add (w / 32) (n * (w / 32)) words p (after_fours (w / 32) words p) r.checks ∙ q.checks;
      after = q.after;
      is = ap₂ (λ (x y : List ℕ). x ++ y) r.is q.is ∙ take-append-drop s memory;
    }
