-- What calls leave in the rows of a memory, and what their statuses say, for any operation on groups.
use mathlib.Core.Path.{◌≡◌, sym, ap, ◌∙◌}
use mathlib.Core.Bool.{true}
use mathlib.Core.List.{List}
use Prim.Native.Nat.{ℕ, zero, suc, ◌+◌, ◌*◌, ◌/◌, ◌≤◌, ◌<◌}
use native.Mathlib.Nat.{zero-mul, suc-mul, zero-add, add-zero}
use native.Mathlib.Decide.{dec_lt}
use native.Mathlib.Omega.{arith}
use lib.ListN.{length, take, drop}
use lib.Seq.{drop-drop}
use Rattle.answer.specs.Order.{earliest}
use Rattle.answer.proofs.Order.{none_earlier}
use Rattle.geometry.specs.Geometry.{valid_width, stride, size, RowsIn}
use Rattle.geometry.proofs.Widths.{stride_is, slot_in, group_in, one_row}
use Rattle.group.specs.declared.Group.{Group}
use Rattle.group.specs.Results.{Outcome}
use Rattle.meter_memory.specs.Rows.{row_of, map_rows, of_rows, of_groups, group_at, with_group}
use Rattle.meter_memory.specs.Pairs.{paired_at, pair_status, pairs_status, pair_row, row_status_by, row_paired_by}
use Rattle.meter_memory.proofs.Lists.{row_length}
use Rattle.meter_memory.proofs.Groups.{row_mapped, length_mapped, length_with, group_same, group_other}
use Rattle.meter_memory.proofs.Pairs.{length_paired, paired_from}

-- no status where the first of several is none
none_rows : (f : ℕ → List ℕ → ℕ) (s n r : ℕ) (memory : List ℕ) → earliest (of_rows f s n r memory) ≡ 0
    → (k : ℕ) → k < n → f (r + k) (take s (drop (k * s) memory)) ≡ 0
unfolding of_rows earliest
none_rows f s zero r memory e k h = absurd (omega arith)
none_rows f s (suc n) r memory e zero h = rw (zero-mul s, add-zero r) (none_earlier _ _ e).0
none_rows f s (suc n) r memory e (suc k) h =
    let at : suc k * s ≡ s + k * s = omega (arith, suc-mul k s) in
    let index : r + suc k ≡ r + 1 + k = omega arith in
    rw (at, index, ← drop-drop (k * s) s memory) (none_rows f s n (r + 1) (drop s memory) (none_earlier _ _ e).1 k (omega arith))

pub row_none : (f : ℕ → List ℕ → ℕ) (d w : ℕ) (memory : List ℕ) → earliest (of_rows f (stride w) d 0 memory) ≡ 0 → (r : ℕ) → r < d → f r (row_of w memory r) ≡ 0
unfolding row_of
row_none f d w memory e r h =
    ap (λ (k : ℕ). f k (take (stride w) (drop (r * stride w) memory))) (sym (zero-add r)) ∙ none_rows f (stride w) d 0 memory e r h

none_groups : (f : ℕ → ℕ) (n g : ℕ) → earliest (of_groups f n g) ≡ 0 → (k : ℕ) → g ≤ k → k < g + n → f k ≡ 0
unfolding of_groups earliest
none_groups f zero g e k p q = absurd (omega arith)
none_groups f (suc n) g e k p q =
    elim (dec_lt g k) [
      | yes m ↦ none_groups f n (g + 1) (none_earlier _ _ e).1 k (omega arith) (omega arith)
      | no m ↦ let z : k ≡ g = omega arith in rw z (none_earlier _ _ e).0
    ]

-- a row every group of which is taken
pub row_taken : (f : Group → Group → Outcome) (w : ℕ) (source row : List ℕ) → pairs_status f w source row ≡ 0 → (g : ℕ) → g < w / 8 → pair_status f w source row g ≡ 0
unfolding pairs_status
row_taken f w source row e g h = none_groups (pair_status f w source row) (w / 8) 0 e g (omega arith) (omega arith)

-- rows of a memory written row by row
pub rows_after : (f : ℕ → List ℕ → List ℕ) (d w : ℕ) (memory : List ℕ) → RowsIn d w (length memory)
    → ((r : ℕ) (row : List ℕ) → length row ≡ stride w → length (f r row) ≡ stride w)
    → (r : ℕ) → r < d → row_of w (map_rows f (stride w) d 0 memory) r ≡ f r (row_of w memory r)
unfolding row_of size
rows_after f d w memory p keeps r h =
    row_mapped f (stride w) keeps d 0 r memory h (omega (arith, p.2)) ∙ ap (λ (k : ℕ). f k (take (stride w) (drop (r * stride w) memory))) (zero-add r)

pub length_after : (f : ℕ → List ℕ → List ℕ) (d w : ℕ) (memory : List ℕ) → RowsIn d w (length memory)
    → ((r : ℕ) (row : List ℕ) → length row ≡ stride w → length (f r row) ≡ stride w)
    → length (map_rows f (stride w) d 0 memory) ≡ length memory
unfolding size
length_after f d w memory p keeps = length_mapped f (stride w) keeps d 0 memory (omega (arith, p.2))

-- lengths of the rows of a memory that they lie in
pub rows_long : (d w : ℕ) (memory : List ℕ) → RowsIn d w (length memory) → (r : ℕ) → r < d → length (row_of w memory r) ≡ stride w
unfolding row_of
rows_long d w memory p r h = row_length r (stride w) memory (one_row d w r p h).2

module _ (w : ℕ) (v : valid_width w ≡ true) where
  -- where groups lie
  pub in_row : (g : ℕ) (row : List ℕ) → length row ≡ stride w → g < w / 8 → (8 * g + 8 ≤ w) × (w + g < length row)
  in_row g row l h = let i = group_in w g v h in (i.0, omega (arith, i.1))

  pub full_row : (row : List ℕ) → length row ≡ stride w → w ≤ length row
  full_row row l = omega (arith, stride_is w)

  -- the group of a slot written anew, and no other
  module _ (row : List ℕ) (l : length row ≡ stride w) (slot : ℕ) (s : slot < w) (x : Group) (eight : length x.counts ≡ 8) where
    at : (8 * (slot / 8) + 8 ≤ w) × (w + slot / 8 < length row)
    at = in_row (slot / 8) row l (slot_in w slot v s)

    pub slot_length : length (with_group w row (slot / 8) x) ≡ stride w
    slot_length = length_with w row (slot / 8) x eight at.0 at.1 ∙ l

    pub slot_group : group_at w (with_group w row (slot / 8) x) (slot / 8) ≡ x
    slot_group = group_same w row (slot / 8) x eight at.0 at.1

    pub slot_other : (g : ℕ) → g < w / 8 → (g ≡ slot / 8 → ⊥) → group_at w (with_group w row (slot / 8) x) g ≡ group_at w row g
    slot_other g h n = group_other w row (slot / 8) x eight at.0 at.1 g (in_row g row l h).0 n

  -- an operation on the groups of two rows keeps the row's length and writes each group
  module _ (f : Group → Group → Outcome) (eight : (x y : Group) → length x.counts ≡ 8 → length (f x y).group.counts ≡ 8) where
    module _ (source row : List ℕ) (l : length row ≡ stride w) where
      pub pair_length : length (pair_row f w source row) ≡ stride w
      unfolding pair_row
      pair_length = length_paired f w source eight (w / 8) 0 row (omega arith) (omega (arith, stride_is w)) ∙ l

      pub pair_group : (g : ℕ) → g < w / 8 → group_at w (pair_row f w source row) g ≡ (paired_at f w source row g).group
      unfolding pair_row
      pair_group g h = paired_from f w source eight (w / 8) 0 row (omega arith) (omega (arith, stride_is w)) g (omega arith) (omega arith)

    -- a meter and a source every group of which is taken
    module _ (d : ℕ) (memory source : List ℕ) (p : RowsIn d w (length memory)) (taken : earliest (of_rows (row_status_by f w source) (stride w) d 0 memory) ≡ 0) where
      keeps : (r : ℕ) (row : List ℕ) → length row ≡ stride w → length (row_paired_by f w source r row) ≡ stride w
      unfolding row_paired_by
      keeps r row l = pair_length (row_of w source r) row l

      pub pairs_taken : (r g : ℕ) → r < d → g < w / 8 → (paired_at f w (row_of w source r) (row_of w memory r) g).status ≡ 0
      unfolding row_status_by pair_status
      pairs_taken r g h k = row_taken f w (row_of w source r) (row_of w memory r) (row_none (row_status_by f w source) d w memory taken r h) g k

      pub pairs_long : length (map_rows (row_paired_by f w source) (stride w) d 0 memory) ≡ length memory
      pairs_long = length_after (row_paired_by f w source) d w memory p keeps

      pub pairs_row : (r : ℕ) → r < d → row_of w (map_rows (row_paired_by f w source) (stride w) d 0 memory) r ≡ pair_row f w (row_of w source r) (row_of w memory r)
      unfolding row_paired_by
      pairs_row r h = rows_after (row_paired_by f w source) d w memory p keeps r h

      pub pairs_group : (r g : ℕ) → r < d → g < w / 8
          → group_at w (row_of w (map_rows (row_paired_by f w source) (stride w) d 0 memory) r) g ≡ (paired_at f w (row_of w source r) (row_of w memory r) g).group
      pairs_group r g h k = rw (pairs_row r h) (pair_group (row_of w source r) (row_of w memory r) (rows_long d w memory p r h) g k)
