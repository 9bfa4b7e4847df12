-- Laws of the loops that read: over words, slots, groups and rows.
use mathlib.Core.Path.{◌≡◌, refl, sym, ap, ◌∙◌}
use mathlib.Core.Bool.{Bool, true, false, cond}
use mathlib.Core.List.{List, ◌++◌, append_assoc}
use Prim.Native.Nat.{ℕ, zero, suc, ◌+◌, ◌-◌, ◌*◌, ◌/◌, ◌%◌, ◌^◌, ◌≤◌, ◌<◌}
use native.Mathlib.Nat.{add_assoc}
use native.Mathlib.Numerals.{add-one, sub-one}
use native.Mathlib.Omega.{arith}
use borrow.Rule.Slice.PartMut.{put_mid}
use lib.ListN.{length, get_or, take, drop, drop_of_length-le, take-append-drop}
use lib.Seq.{drop-cons}
use Rattle.group.specs.declared.Group.{Group}
use Rattle.group.specs.Group.{changed}
use Rattle.group_fields.proofs.Readings.{changed_merge}
use Rattle.geometry.specs.Geometry.{stride}
use Rattle.meter_memory.specs.Rows.{with_group}
use Rattle.meter_memory.proofs.Lists.{back_front, back_behind}
use Rattle.word.specs.Word.{payload}
use Rattle.image_format.specs.Image.{word_count, level_at, is_first}
use Rattle.image_format.specs.Write.{slot_size, group_size}
use Rattle.image_format.proofs.Rows.{rows_turn}
use Rattle.image_format.specs.Read.{value_from, read_slot, read_slots, merges_at, read_group, read_groups, after_groups, after_fours, read_fours, read_rows}

-- the words of a value, read one by one
pub value_step : (n v : ℕ) (words : List ℕ) (p : ℕ) → 0 < n → value_from n v words p ≡ value_from (n - 1) (v % 2 ^ 40 * 2 ^ 24 + payload words p % 2 ^ 24) words (p + 1)
unfolding value_from
value_step zero v words p h = absurd (omega arith)
value_step (suc n) v words p h = rw (sub-one (suc n))

pub value_none : (n v : ℕ) (words : List ℕ) (p : ℕ) → n ≡ 0 → value_from n v words p ≡ v
unfolding value_from
value_none n v words p e = rw e

-- slots read
pub read_slot_other : (k : ℕ) (g : Group) (words : List ℕ) (p : ℕ) → is_first g.merge k ≡ false → read_slot k g words p ≡ g
unfolding read_slot
read_slot_other k g words p e = rw e

pub read_slot_first : (k : ℕ) (g : Group) (level n v : ℕ) (words : List ℕ) (p : ℕ) → level ≡ level_at g.merge k → is_first g.merge k ≡ true → n ≡ word_count level → v ≡ value_from n 0 words p
    → (changed g k v).group ≡ read_slot k g words p
unfolding read_slot
read_slot_first k g level n v words p e f h i = rw (f, ← e, ← h, i)

pub read_slot_merge : (k : ℕ) (g : Group) (words : List ℕ) (p : ℕ) → (read_slot k g words p).merge ≡ g.merge
unfolding read_slot
read_slot_merge k g words p = go (is_first g.merge k)
  where
    go : (t : Bool) → (cond t (changed g k (value_from (word_count (level_at g.merge k)) 0 words p)).group g).merge ≡ g.merge
    go true = changed_merge g k (value_from (word_count (level_at g.merge k)) 0 words p)
    go false = refl

pub read_slots_step : (n k : ℕ) (g : Group) (words : List ℕ) (p : ℕ) → k < n
    → read_slots (n - k) k g words p ≡ read_slots (n - (k + 1)) (k + 1) (read_slot k g words p) words (p + slot_size g.merge k)
unfolding read_slots
read_slots_step n k g words p h =
    let e : n - k ≡ suc (n - (k + 1)) = omega arith in
    rw e

pub read_slots_none : (n k : ℕ) (g : Group) (words : List ℕ) (p : ℕ) → n ≡ 0 → read_slots n k g words p ≡ g
unfolding read_slots
read_slots_none n k g words p e = rw e

-- reads of groups
pub read_groups_step : (ms : List ℕ) (i g w : ℕ) (row words : List ℕ) (p : ℕ) → i < length ms
    → read_groups (drop i ms) (g + i) w row words p
    ≡ read_groups (drop (i + 1) ms) (g + (i + 1)) w (with_group w row (g + i) (read_group (get_or ms i 0) words p)) words (p + group_size (get_or ms i 0))
unfolding read_groups
read_groups_step ms i g w row words p h =
    let x = with_group w row (g + i) (read_group (get_or ms i 0) words p) in
    rw (drop-cons ms i 0, add-one i) (ap (λ (y : ℕ). read_groups (drop (suc i) ms) y w x words (p + group_size (get_or ms i 0))) (add_assoc g i 1 ∙ ap (λ (y : ℕ). g + y) (add-one i)))

pub read_groups_none : (ms : List ℕ) (i g w : ℕ) (row words : List ℕ) (p : ℕ) → length ms ≤ i → read_groups (drop i ms) g w row words p ≡ row
unfolding read_groups
read_groups_none ms i g w row words p h = rw (drop_of_length-le ms h)

pub after_groups_step : (ms : List ℕ) (i p : ℕ) → i < length ms → after_groups (drop i ms) p ≡ after_groups (drop (i + 1) ms) (p + group_size (get_or ms i 0))
unfolding after_groups
after_groups_step ms i p h = rw (drop-cons ms i 0, add-one)

pub after_groups_none : (ms : List ℕ) (i p : ℕ) → length ms ≤ i → after_groups (drop i ms) p ≡ p
unfolding after_groups
after_groups_none ms i p h = rw (drop_of_length-le ms h)

-- reads of 32 slots
pub after_fours_step : (n i : ℕ) (words : List ℕ) (p : ℕ) → i < n → after_fours (n - i) words p ≡ after_fours (n - (i + 1)) words (after_groups (merges_at words p) (p + 1))
unfolding after_fours
after_fours_step n i words p h =
    let e : n - i ≡ suc (n - (i + 1)) = omega arith in
    rw e

pub after_fours_none : (n : ℕ) (words : List ℕ) (p : ℕ) → n ≡ 0 → after_fours n words p ≡ p
unfolding after_fours
after_fours_none n words p e = rw e

pub read_fours_step : (n i w : ℕ) (row words : List ℕ) (p : ℕ) → i < n
    → read_fours (n - i) (4 * i) w row words p
    ≡ read_fours (n - (i + 1)) (4 * (i + 1)) w (read_groups (merges_at words p) (4 * i) w row words (p + 1)) words (after_groups (merges_at words p) (p + 1))
unfolding read_fours
read_fours_step n i w row words p h =
    let e : n - i ≡ suc (n - (i + 1)) = omega arith in
    let f : 4 * i + 4 ≡ 4 * (i + 1) = omega arith in
    rw e (ap (λ (x : ℕ). read_fours (n - (i + 1)) x w (read_groups (merges_at words p) (4 * i) w row words (p + 1)) words (after_groups (merges_at words p) (p + 1))) f)

pub read_fours_none : (n g w : ℕ) (row words : List ℕ) (p : ℕ) → n ≡ 0 → read_fours n g w row words p ≡ row
unfolding read_fours
read_fours_none n g w row words p e = rw e

-- the bytes of row r
row_part : (memory : List ℕ) (r w size : ℕ) → size ≡ stride w → take (r * size + size - r * size) (drop (r * size) memory) ≡ take (stride w) (drop (r * stride w) memory)
row_part memory r w size e =
    let s : r * size + size - r * size ≡ size = omega arith in
    rw s (ap (λ (n : ℕ). take n (drop (r * n) memory)) e)

-- rows read: those before row r are done, and the rest is to be done
abbrev pub rows_from : ℕ → ℕ → ℕ → List ℕ → List ℕ → ℕ → List ℕ
rows_from d r w memory words p = take (r * stride w) memory ++ read_rows (d - r) w (drop (r * stride w) memory) words p

read_rows_step : (memory : List ℕ) (d r w : ℕ) (words : List ℕ) (p : ℕ) → r < d
    → read_rows (d - r) w (drop (r * stride w) memory) words p
    ≡ read_fours (w / 32) 0 w (take (stride w) (drop (r * stride w) memory)) words p ++ read_rows (d - (r + 1)) w (drop ((r + 1) * stride w) memory) words (after_fours (w / 32) words p)
unfolding read_rows
read_rows_step memory d r w words p h =
    ap (λ (f : ℕ → List ℕ). f p)
    (rows_turn (λ n m q. read_rows n w m words q) (λ row f q. read_fours (w / 32) 0 w row words q ++ f (after_fours (w / 32) words q)) (stride w) (λ n m. refl) memory d r h)

pub read_rows_end : (d r w : ℕ) (memory words : List ℕ) (p : ℕ) → d - r ≡ 0 → rows_from d r w memory words p ≡ memory
unfolding read_rows
read_rows_end d r w memory words p e = rw (e, take-append-drop)

module _ (d r w : ℕ) (memory ys words : List ℕ) (p size : ℕ) (e : size ≡ stride w) (h : r < d) (k : r * stride w + stride w ≤ length memory) (l : length ys ≡ stride w) where
  pub read_rows_turn : ys ≡ read_fours (w / 32) 0 w (take (r * size + size - r * size) (drop (r * size) memory)) words p
      → rows_from d (r + 1) w (put_mid (r * size) (r * size + size - r * size) memory ys) words (after_fours (w / 32) words p) ≡ rows_from d r w memory words p
  read_rows_turn f =
      let s = stride w in
      let a = r * s in
      let y : ys ≡ read_fours (w / 32) 0 w (take s (drop a memory)) words p = f ∙ ap (λ (z : List ℕ). read_fours (w / 32) 0 w z words p) (row_part memory r w size e) in
      let rest = read_rows (d - (r + 1)) w (drop ((r + 1) * s) memory) words (after_fours (w / 32) words p) in
      let done : rows_from d (r + 1) w (put_mid a (a + s - a) memory ys) words (after_fours (w / 32) words p) ≡ take a memory ++ (ys ++ rest)
      = rw (back_front r s memory ys k l, back_behind r s memory ys k l) (append_assoc (take a memory) ys rest) in
      let left : read_rows (d - r) w (drop a memory) words p ≡ ys ++ rest = read_rows_step memory d r w words p h ∙ rw (← y) in
      ap (λ (z : ℕ). rows_from d (r + 1) w (put_mid (r * z) (r * z + z - r * z) memory ys) words (after_fours (w / 32) words p)) e ∙ done ∙ ap (λ (z : List ℕ). take a memory ++ z) (sym left)
