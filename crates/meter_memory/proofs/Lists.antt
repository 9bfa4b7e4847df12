-- Laws of copies and of rows lent out.
use mathlib.Core.Path.{◌≡◌, refl, sym, ap, ap₂, ◌∙◌}
use mathlib.Core.List.{List, [], ◌∷◌, ◌++◌, append_assoc}
use Prim.Native.Nat.{ℕ, zero, suc, ◌+◌, ◌-◌, ◌*◌, ◌≤◌, ◌<◌, max}
use native.Mathlib.Nat.{max-zero, zero-mul, suc-mul, add-mul, one-mul, add-zero, sub-zero}
use native.Mathlib.Numerals.{sub-one}
use native.Mathlib.Decide.{dec_lt}
use native.Mathlib.Omega.{arith}
use borrow.Rule.Slice.PartMut.{put_mid, Post-is}
use lib.ListN.{length, get_or, take, drop, set, length-append, length-drop, take-append-drop}
use lib.Seq.{length-take-le, take_at, drop_at, drop-drop, get_or-drop, get_or-set_same, get_or-set_other}
use Rattle.meter_memory.specs.Rows.{map_rows, of_rows, of_groups, largest}
use Rattle.answer.specs.Order.{earlier, earliest}
use Rattle.answer.proofs.Order.{earlier_none, earlier_assoc}

-- lists that are the same from place k on
pub same_from : (k : ℕ) (xs ys : List ℕ) → drop k xs ≡ drop k ys → get_or xs k 0 ≡ get_or ys k 0
same_from k xs ys e =
    let z : k + 0 ≡ k = omega arith in
    rw z at (sym (get_or-drop k xs 0 0) ∙ ap (λ (l : List ℕ). get_or l 0 0) e ∙ get_or-drop k ys 0 0)

pub row_length : (r stride : ℕ) (memory : List ℕ) → r * stride + stride ≤ length memory → length (take stride (drop (r * stride) memory)) ≡ stride
row_length r stride memory h = length-take-le stride (drop (r * stride) memory) (rw (length-drop (r * stride) memory) (omega arith))

-- the row after it starts where it ends
next_row : (r stride : ℕ) → (r + 1) * stride ≡ r * stride + stride
next_row r stride = add-mul r 1 stride ∙ ap (λ (m : ℕ). r * stride + m) (one-mul stride)

pub drop_row : (memory : List ℕ) (r stride : ℕ) → drop stride (drop (r * stride) memory) ≡ drop ((r + 1) * stride) memory
drop_row memory r stride = drop-drop stride (r * stride) memory ∙ ap (λ (n : ℕ). drop n memory) (sym (next_row r stride))

-- the bytes of a row that is lent
pub lent : (a s : ℕ) (memory : List ℕ) → take (a + s - a) (drop a memory) ≡ take s (drop a memory)
lent a s memory =
    let e : a + s - a ≡ s = omega arith in
    rw e

-- row r was lent, and is back as ys: the rows up to it, and those behind it
module _ (r stride : ℕ) (memory ys : List ℕ) (k : r * stride + stride ≤ length memory) (l : length ys ≡ stride) where
  front_length : length (take (r * stride) memory ++ ys) ≡ r * stride + stride
  front_length = simp (length-append, length-take-le (r * stride) memory (omega arith), l)

  back : put_mid (r * stride) (r * stride + stride - r * stride) memory ys ≡ (take (r * stride) memory ++ ys) ++ drop (r * stride + stride) memory
  back =
      ap (λ (z : List ℕ). take (r * stride) memory ++ (ys ++ z)) (Post-is (r * stride) (r * stride + stride) memory (omega arith))
      ∙ sym (append_assoc (take (r * stride) memory) ys (drop (r * stride + stride) memory))

  pub back_front : take ((r + 1) * stride) (put_mid (r * stride) (r * stride + stride - r * stride) memory ys) ≡ take (r * stride) memory ++ ys
  back_front = rw (back, next_row r stride) (take_at (take (r * stride) memory ++ ys) (drop (r * stride + stride) memory) (r * stride + stride) front_length)

  pub back_behind : drop ((r + 1) * stride) (put_mid (r * stride) (r * stride + stride - r * stride) memory ys) ≡ drop ((r + 1) * stride) memory
  back_behind = rw (back, next_row r stride) (drop_at (take (r * stride) memory ++ ys) (drop (r * stride + stride) memory) (r * stride + stride) front_length)

  -- rows behind it are still those of an earlier memory
  pub behind_kept : (before : List ℕ) → drop (r * stride) memory ≡ drop (r * stride) before
      → drop ((r + 1) * stride) (put_mid (r * stride) (r * stride + stride - r * stride) memory ys) ≡ drop ((r + 1) * stride) before
  behind_kept before e = back_behind ∙ sym (drop_row memory r stride) ∙ ap (drop stride) e ∙ drop_row before r stride

-- rows read one by one
module _ {A : Type 0} (f : ℕ → List ℕ → A) (stride : ℕ) where
  pub rows_read : (d r : ℕ) (memory : List ℕ) → r < d
      → of_rows f stride (d - r) r (drop (r * stride) memory)
      ≡ f r (take stride (drop (r * stride) memory)) ∷ of_rows f stride (d - (r + 1)) (r + 1) (drop ((r + 1) * stride) memory)
  unfolding of_rows
  rows_read d r memory h =
      let e : d - r ≡ suc (d - (r + 1)) = omega arith in
      rw (e, drop-drop stride (r * stride) memory, next_row r stride)

  pub rows_read_none : (d r : ℕ) (memory : List ℕ) → d ≤ r → of_rows f stride (d - r) r memory ≡ []
  unfolding of_rows
  rows_read_none d r memory h =
      let e : d - r ≡ 0 = omega arith in
      rw e

  pub rows_read_all : (d : ℕ) (memory : List ℕ) → of_rows f stride (d - 0) 0 (drop (0 * stride) memory) ≡ of_rows f stride d 0 memory
  rows_read_all d memory = rw (zero-mul, sub-zero)

-- rows written one by one
module _ (f : ℕ → List ℕ → List ℕ) (stride : ℕ) where
  rows_more : (n r : ℕ) (memory : List ℕ) → 0 < n → map_rows f stride n r memory ≡ f r (take stride memory) ++ map_rows f stride (n - 1) (r + 1) (drop stride memory)
  unfolding map_rows
  rows_more zero r memory h = absurd (omega arith)
  rows_more (suc n) r memory h = rw (sub-one (suc n))

  -- a memory whose rows before row r are done
  abbrev pub rows_from : ℕ → ℕ → List ℕ → List ℕ
  rows_from d r memory = take (r * stride) memory ++ map_rows f stride (d - r) r (drop (r * stride) memory)

  pub rows_start : (d : ℕ) (memory : List ℕ) → rows_from d 0 memory ≡ map_rows f stride d 0 memory
  rows_start d memory = rw (zero-mul, sub-zero)

  -- a turn: row r was lent, and is back as f gives it
  pub rows_turn : (d r : ℕ) (memory ys : List ℕ) → r < d → r * stride + stride ≤ length memory → length ys ≡ stride
      → ys ≡ f r (take stride (drop (r * stride) memory))
      → rows_from d (r + 1) (put_mid (r * stride) (r * stride + stride - r * stride) memory ys) ≡ rows_from d r memory
  rows_turn d r memory ys h k l e =
      let n : d - r - 1 ≡ d - (r + 1) = omega arith in
      rw (
        back_front r stride memory ys k l,
        back_behind r stride memory ys k l,
        rows_more (d - r) r (drop (r * stride) memory) (omega arith),
        n,
        drop_row memory r stride,
        ← e,
      )
      (append_assoc (take (r * stride) memory) ys (map_rows f stride (d - (r + 1)) (r + 1) (drop ((r + 1) * stride) memory)))

  pub rows_end : (d r : ℕ) (memory : List ℕ) → d ≤ r → rows_from d r memory ≡ memory
  unfolding map_rows
  rows_end d r memory h =
      let e : d - r ≡ 0 = omega arith in
      rw (e, take-append-drop)

-- groups read one by one
pub groups_read : (f : ℕ → ℕ) (n g : ℕ) → g < n → of_groups f (n - g) g ≡ f g ∷ of_groups f (n - (g + 1)) (g + 1)
unfolding of_groups
groups_read f n g h =
    let e : n - g ≡ suc (n - (g + 1)) = omega arith in
    rw e

pub groups_read_none : (f : ℕ → ℕ) (n g : ℕ) → n ≤ g → of_groups f (n - g) g ≡ []
unfolding of_groups
groups_read_none f n g h =
    let e : n - g ≡ 0 = omega arith in
    rw e

-- the answers and levels of groups, gathered one by one
pub status_start : (f : ℕ → ℕ) (n : ℕ) → earlier 0 (earliest (of_groups f (n - 0) 0)) ≡ earliest (of_groups f n 0)
unfolding earlier
status_start f n = rw (sub-zero n)

pub level_start : (f : ℕ → ℕ) (n : ℕ) → max 0 (largest (of_groups f (n - 0) 0)) ≡ largest (of_groups f n 0)
level_start f n = rw (sub-zero n) (omega arith)

-- the answers of k groups, and of those after them
pub status_run : (f : ℕ → ℕ) (k n g : ℕ) → g + k ≤ n → earlier (earliest (of_groups f k g)) (earliest (of_groups f (n - (g + k)) (g + k))) ≡ earliest (of_groups f (n - g) g)
unfolding earlier earliest of_groups
status_run f zero n g h =
    let e : g + 0 ≡ g = omega arith in
    rw e
status_run f (suc k) n g h =
    let e : g + suc k ≡ g + 1 + k = omega arith in
    rw (e, groups_read f n g (omega arith))
    (earlier_assoc (f g) (earliest (of_groups f k (g + 1))) (earliest (of_groups f (n - (g + 1 + k)) (g + 1 + k))) ∙ ap (earlier (f g)) (status_run f k n (g + 1) (omega arith)))

module _ (f : ℕ → ℕ) (n g : ℕ) where
  pub status_turn : (s x : ℕ) → g < n → x ≡ f g → earlier (earlier s x) (earliest (of_groups f (n - (g + 1)) (g + 1))) ≡ earlier s (earliest (of_groups f (n - g) g))
  unfolding earliest
  status_turn s x h e = rw (groups_read f n g h, e) (earlier_assoc s (f g) (earliest (of_groups f (n - (g + 1)) (g + 1))))

  pub status_end : (s : ℕ) → n ≤ g → earlier s (earliest (of_groups f (n - g) g)) ≡ s
  unfolding earliest
  status_end s h = rw (groups_read_none f n g h) (earlier_none s)

  pub level_turn : (v x : ℕ) → g < n → x ≡ f g → max (max v x) (largest (of_groups f (n - (g + 1)) (g + 1))) ≡ max v (largest (of_groups f (n - g) g))
  unfolding largest
  level_turn v x h e = rw (groups_read f n g h, e) (omega arith)

  pub level_end : (v : ℕ) → n ≤ g → max v (largest (of_groups f (n - g) g)) ≡ v
  unfolding largest
  level_end v h = rw (groups_read_none f n g h) (max-zero v)

-- an array filled from the front: one element more
pub filled_more : {A : Type 0} (f : ℕ → A) (l : List A) (i : ℕ) (x z : A) → i < length l → x ≡ f i
    → ((k : ℕ) → k < i → get_or l k z ≡ f k) → (k : ℕ) → k < i + 1 → get_or (set l i x) k z ≡ f k
filled_more f l i x z h e p k m =
    elim (dec_lt k i) [
      | yes b ↦ get_or-set_other l i k x z (λ q. omega arith) ∙ p k b
      | no b ↦ let q : k ≡ i = omega arith in rw q (get_or-set_same l i x z h ∙ e)
    ]

-- a list that has at place k what is read of row k: its first n are what is read of n rows
pub rows_list : {A : Type 0} (f : ℕ → List ℕ → A) (stride n r : ℕ) (memory : List ℕ) (xs : List A) (z : A) → n ≤ length xs
    → ((k : ℕ) → k < n → get_or xs k z ≡ f (r + k) (take stride (drop (k * stride) memory))) → take n xs ≡ of_rows f stride n r memory
unfolding of_rows
rows_list f stride zero r memory xs z l h = refl
rows_list f stride (suc n) r memory [] z l h = absurd (omega arith)
rows_list {A} f stride (suc n) r memory (x ∷ xs) z l h =
    let first : x ≡ f r (take stride memory) = rw (zero-mul stride, add-zero r) at (h 0 (omega arith)) in
    let rest = rows_list f stride n (r + 1) (drop stride memory) xs z (omega arith)
    (λ k q.
    let at : suc k * stride ≡ stride + k * stride = omega (arith, suc-mul k stride) in
    let index : r + suc k ≡ r + 1 + k = omega arith in
    rw (drop-drop (k * stride) stride memory, ← at, ← index) (h (suc k) (omega arith))) in
    ap₂ ◌∷◌ first rest
