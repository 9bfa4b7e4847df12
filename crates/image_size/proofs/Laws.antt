-- Laws of the loops that test and count: merge bytes, and lengths of words by slots, groups and rows.
use mathlib.Core.Path.{◌≡◌, refl, sym, ◌∙◌}
use Rattle.std.specs.Prelude.{IsTrue, ◌↔◌}
use Rattle.std.specs.List.{All}
use Rattle.std.proofs.Math.Bool.{and_assoc}
use borrow.Table.Steps.{cases}
use mathlib.Core.Bool.{Bool, true, false, cond, ◌&&◌}
use mathlib.Core.List.{List, [], ◌∷◌, ◌++◌}
use Prim.Native.Nat.{ℕ, zero, suc, ◌+◌, ◌-◌, ◌*◌, ◌/◌, ◌≤◌, ◌<◌}
use native.Mathlib.Nat.{add_assoc}
use native.Mathlib.Numerals.{add-one}
use native.Mathlib.Omega.{arith}
use lib.ListN.{length, get_or, take, drop, length-append, drop_of_length-le}
use lib.Seq.{drop-cons}
use Rattle.group.specs.declared.Group.{Group}
use Rattle.group.specs.Group.{valid_merge, read}
use Rattle.geometry.specs.Geometry.{stride}
use Rattle.meter_memory.specs.Rows.{group_at}
use Rattle.image_format.specs.Image.{parts, word_count, level_at, is_first, slot_words, slots_words, group_words, groups_words, four_words, row_words, rows_words, body, end_word, image}
use Rattle.image_format.specs.Write.{all_valid, valid_rows, slot_size, slots_size, group_size}
use Rattle.image_format.proofs.Laws.{parts_length}
use Rattle.image_format.proofs.Rows.{rows_turn}

-- merge bytes one by one
pub valid_step : (row : List ℕ) (i : ℕ) → i < length row → all_valid (drop i row) ≡ (valid_merge (get_or row i 0) && all_valid (drop (i + 1) row))
unfolding all_valid
valid_step row i h = rw (drop-cons row i 0, add-one)

pub valid_none : (row : List ℕ) (i : ℕ) → length row ≤ i → all_valid (drop i row) ≡ true
unfolding all_valid
valid_none row i h = rw (drop_of_length-le row h)

pub valid_append : (xs ys : List ℕ) → all_valid (xs ++ ys) ≡ (all_valid xs && all_valid ys)
unfolding all_valid
valid_append [] ys = refl
valid_append (x ∷ xs) ys = rw (valid_append xs ys) (sym (and_assoc (valid_merge x) (all_valid xs) (all_valid ys)))

both : (a b : Bool) → (a && b) ≡ true → (a ≡ true) × (b ≡ true)
both true b h = (refl, h)
both false b h = cc

valid_each : (ms : List ℕ) → all_valid ms ≡ true → All (λ m. valid_merge m ≡ true) ms
unfolding all_valid
valid_each [] h k d l = absurd (omega arith)
valid_each (m ∷ ms) h zero d l = (both (valid_merge m) (all_valid ms) h).0
valid_each (m ∷ ms) h (suc k) d l = valid_each ms (both (valid_merge m) (all_valid ms) h).1 k d (omega arith)

valid_from : (ms : List ℕ) → All (λ m. valid_merge m ≡ true) ms → all_valid ms ≡ true
unfolding all_valid
valid_from [] h = refl
valid_from (m ∷ ms) h = rw (h 0 0 (omega arith)) (valid_from ms (λ k d l. h (suc k) d (omega arith)))

pub valid_all : (b : Bool) (ms : List ℕ) → IsTrue b ↔ All (λ m. valid_merge m ≡ true) ms → b ≡ all_valid ms
valid_all true ms h = sym (valid_from ms (h.0 refl))
valid_all false ms h = cases (all_valid ms) (λ t. h.1 (valid_each ms t) ∙ sym t) (λ f. sym f)

pub valid_rows_step : (memory : List ℕ) (d r w : ℕ) → r < d
    → valid_rows (d - r) w (drop (r * stride w) memory) ≡ (all_valid (drop w (take (stride w) (drop (r * stride w) memory))) && valid_rows (d - (r + 1)) w (drop ((r + 1) * stride w) memory))
unfolding valid_rows
valid_rows_step memory d r w h = rows_turn (λ n m. valid_rows n w m) (λ row v. all_valid (drop w row) && v) (stride w) (λ n m. refl) memory d r h

pub valid_rows_none : (n w : ℕ) (memory : List ℕ) → n ≡ 0 → valid_rows n w memory ≡ true
unfolding valid_rows
valid_rows_none n w memory e = rw e

pub slot_length : (g : Group) (k : ℕ) → length (slot_words g k) ≡ slot_size g.merge k
unfolding slot_words slot_size
slot_length g k = go (is_first g.merge k)
  where
    go : (t : Bool) → length (cond t (parts (word_count (level_at g.merge k)) (read g k).value) []) ≡ cond t (word_count (level_at g.merge k)) 0
    go true = parts_length (word_count (level_at g.merge k)) (read g k).value
    go false = refl

pub slots_length : (n k : ℕ) (g : Group) → length (slots_words n k g) ≡ slots_size n k g.merge
unfolding slots_words slots_size
slots_length zero k g = refl
slots_length (suc n) k g = rw (length-append (slot_words g k) (slots_words n (k + 1) g), slot_length g k, slots_length n (k + 1) g)

pub group_length : (g : Group) → length (group_words g) ≡ group_size g.merge
unfolding group_words group_size
group_length g = slots_length 8 0 g

pub groups_step : (n i g w : ℕ) (row : List ℕ) → i < n
    → groups_words (n - i) (g + i) w row ≡ group_words (group_at w row (g + i)) ++ groups_words (n - (i + 1)) (g + (i + 1)) w row
unfolding groups_words
groups_step n i g w row h =
    let e : n - i ≡ suc (n - (i + 1)) = omega arith in
    rw (e, add_assoc g i 1)

pub groups_none : (n g w : ℕ) (row : List ℕ) → n ≡ 0 → groups_words n g w row ≡ []
unfolding groups_words
groups_none n g w row e = rw e

pub groups_size_step : (n i g w : ℕ) (row : List ℕ) → i < n
    → length (groups_words (n - i) (g + i) w row) ≡ group_size (get_or row (w + g + i) 0) + length (groups_words (n - (i + 1)) (g + (i + 1)) w row)
unfolding group_at
groups_size_step n i g w row h =
    rw (groups_step n i g w row h, length-append (group_words (group_at w row (g + i))) (groups_words (n - (i + 1)) (g + (i + 1)) w row), group_length (group_at w row (g + i)), add_assoc w g i)

pub groups_length_step : (n i g w : ℕ) (row : List ℕ) → i < n
    → length (groups_words (n - i) (g + i) w row) ≡ group_size (group_at w row (g + i)).merge + length (groups_words (n - (i + 1)) (g + (i + 1)) w row)
groups_length_step n i g w row h =
    rw (groups_step n i g w row h, length-append (group_words (group_at w row (g + i))) (groups_words (n - (i + 1)) (g + (i + 1)) w row), group_length (group_at w row (g + i)))

pub four_length : (w : ℕ) (row : List ℕ) (g : ℕ) → length (four_words w row g) ≡ suc (length (groups_words 4 g w row))
unfolding four_words
four_length w row g = refl

pub row_step : (n i w : ℕ) (row : List ℕ) → i < n → row_words (n - i) (4 * i) w row ≡ four_words w row (4 * i) ++ row_words (n - (i + 1)) (4 * (i + 1)) w row
unfolding row_words
row_step n i w row h =
    let e : n - i ≡ suc (n - (i + 1)) = omega arith in
    let f : 4 * i + 4 ≡ 4 * (i + 1) = omega arith in
    rw (e, f)

pub row_none : (n g w : ℕ) (row : List ℕ) → n ≡ 0 → row_words n g w row ≡ []
unfolding row_words
row_none n g w row e = rw e

pub row_length_step : (n i w : ℕ) (row : List ℕ) → i < n
    → length (row_words (n - i) (4 * i) w row) ≡ suc (length (groups_words 4 (4 * i) w row)) + length (row_words (n - (i + 1)) (4 * (i + 1)) w row)
row_length_step n i w row h =
    rw (row_step n i w row h, length-append (four_words w row (4 * i)) (row_words (n - (i + 1)) (4 * (i + 1)) w row), four_length w row (4 * i))

pub rows_step : (memory : List ℕ) (d r w : ℕ) → r < d
    → rows_words (d - r) w (drop (r * stride w) memory) ≡ row_words (w / 32) 0 w (take (stride w) (drop (r * stride w) memory)) ++ rows_words (d - (r + 1)) w (drop ((r + 1) * stride w) memory)
unfolding rows_words
rows_step memory d r w h = rows_turn (λ n m. rows_words n w m) (λ row ws. row_words (w / 32) 0 w row ++ ws) (stride w) (λ n m. refl) memory d r h

pub rows_none : (n w : ℕ) (memory : List ℕ) → n ≡ 0 → rows_words n w memory ≡ []
unfolding rows_words
rows_none n w memory e = rw e

pub rows_length_step : (memory : List ℕ) (d r w : ℕ) → r < d
    → length (rows_words (d - r) w (drop (r * stride w) memory)) ≡ length (row_words (w / 32) 0 w (take (stride w) (drop (r * stride w) memory))) + length (rows_words (d - (r + 1)) w (drop ((r + 1) * stride w) memory))
rows_length_step memory d r w h =
    rw (rows_step memory d r w h, length-append (row_words (w / 32) 0 w (take (stride w) (drop (r * stride w) memory))) (rows_words (d - (r + 1)) w (drop ((r + 1) * stride w) memory)))

-- an image's length
pub image_length : (d w : ℕ) (memory : List ℕ) → length (image d w memory) ≡ length (rows_words d w memory) + 2
unfolding image body
image_length d w memory = rw (length-append (rows_words d w memory) (end_word (suc (length (rows_words d w memory))) ∷ [])) (omega arith)
