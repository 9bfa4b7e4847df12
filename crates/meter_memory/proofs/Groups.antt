-- Laws of rows and groups: what a write leaves of the others.
use mathlib.Core.Path.{◌≡◌, refl, sym, ap, ◌∙◌}
use mathlib.Core.List.{List, ◌++◌, append_assoc}
use Prim.Native.Nat.{ℕ, zero, suc, ◌+◌, ◌-◌, ◌*◌, ◌≤◌, ◌<◌}
use native.Mathlib.Nat.{zero-mul, suc-mul, add-zero}
use native.Mathlib.Decide.{dec_lt}
use native.Mathlib.Omega.{arith}
use lib.Arith.{lt_of_le-ne}
use lib.ListN.{length, get_or, take, drop, set, length-append, length-drop, length-set, take-append-drop}
use lib.Seq.{length-take-le, take_at, drop_at, take-append-le, drop-append-le, drop-drop, get_or-set_same, get_or-set_other, set-get_or, get_or-drop, take-set-le, drop-set-add}
use Rattle.group.specs.declared.Group.{Group}
use Rattle.meter_memory.specs.Rows.{map_rows, group_at, with_group}

module _ (f : ℕ → List ℕ → List ℕ) (stride : ℕ) (keeps : (r : ℕ) (row : List ℕ) → length row ≡ stride → length (f r row) ≡ stride) where
  -- each row of the result is what f makes of that row
  pub row_mapped : (n r k : ℕ) (memory : List ℕ) → k < n → n * stride ≤ length memory
      → take stride (drop (k * stride) (map_rows f stride n r memory)) ≡ f (r + k) (take stride (drop (k * stride) memory))
  unfolding map_rows
  row_mapped zero r k memory h l = absurd (omega arith)
  row_mapped (suc n) r zero memory h l =
      let first = keeps r (take stride memory) (length-take-le stride memory (omega (arith, suc-mul n stride))) in
      rw (zero-mul stride, add-zero r, take_at (f r (take stride memory)) (map_rows f stride n (r + 1) (drop stride memory)) stride first)
  row_mapped (suc n) r (suc k) memory h l =
      let first = keeps r (take stride memory) (length-take-le stride memory (omega (arith, suc-mul n stride))) in
      let rest = map_rows f stride n (r + 1) (drop stride memory) in
      let at : suc k * stride ≡ stride + k * stride = omega (arith, suc-mul k stride) in
      let index : r + suc k ≡ r + 1 + k = omega arith in
      rw (
        at,
        index,
        ← drop-drop (k * stride) stride (f r (take stride memory) ++ rest),
        drop_at (f r (take stride memory)) rest stride first,
        row_mapped n (r + 1) k (drop stride memory) (omega arith) (rw (length-drop stride memory) (omega (arith, suc-mul n stride))),
        drop-drop (k * stride) stride memory,
      )

  pub length_mapped : (n r : ℕ) (memory : List ℕ) → n * stride ≤ length memory → length (map_rows f stride n r memory) ≡ length memory
  unfolding map_rows
  length_mapped zero r memory l = refl
  length_mapped (suc n) r memory l =
      let first = keeps r (take stride memory) (length-take-le stride memory (omega (arith, suc-mul n stride))) in
      rw (
        length-append (f r (take stride memory)) (map_rows f stride n (r + 1) (drop stride memory)),
        first,
        length_mapped n (r + 1) (drop stride memory) (rw (length-drop stride memory) (omega (arith, suc-mul n stride))),
        length-drop stride memory,
      )
      (omega (arith, suc-mul n stride))

-- eight bytes in the first of two lists
front_part : (xs ys : List ℕ) (at : ℕ) → at + 8 ≤ length xs → take 8 (drop at (xs ++ ys)) ≡ take 8 (drop at xs)
front_part xs ys at h =
    rw (drop-append-le at xs ys (omega arith)) (take-append-le 8 (drop at xs) ys (rw (length-drop at xs) (omega arith)))

-- a group that was written, and the others
module _ (w : ℕ) (row : List ℕ) (g : ℕ) (x : Group) (eight : length x.counts ≡ 8) (counts : 8 * g + 8 ≤ w) (merge : w + g < length row) where
  pasted : List ℕ
  pasted = take (8 * g) row ++ x.counts ++ drop (8 * g + 8) row

  front : length (take (8 * g) row) ≡ 8 * g
  front = length-take-le (8 * g) row (omega arith)

  both : length (take (8 * g) row ++ x.counts) ≡ 8 * g + 8
  both = rw (length-append (take (8 * g) row) x.counts, front, eight)

  length_pasted : length pasted ≡ length row
  unfolding pasted
  length_pasted = rw (length-append (take (8 * g) row ++ x.counts) (drop (8 * g + 8) row), both, length-drop (8 * g + 8) row) (omega arith)

  pub length_with : length (with_group w row g x) ≡ length row
  unfolding with_group pasted
  length_with = length-set pasted (w + g) x.merge ∙ length_pasted

  -- the merge byte lies past all count bytes
  past : (k : ℕ) → 8 * k + 8 ≤ w → take 8 (drop (8 * k) (set pasted (w + g) x.merge)) ≡ take 8 (drop (8 * k) pasted)
  past k h =
      let j = w + g - 8 * k in
      let e : w + g ≡ 8 * k + j = omega arith in
      rw (e, drop-set-add (8 * k) pasted j x.merge) (take-set-le 8 (drop (8 * k) pasted) j x.merge (omega arith))

  after : drop (8 * g + 8) pasted ≡ drop (8 * g + 8) row
  unfolding pasted
  after = drop_at (take (8 * g) row ++ x.counts) (drop (8 * g + 8) row) (8 * g + 8) both

  pub group_same : group_at w (with_group w row g x) g ≡ x
  unfolding group_at with_group pasted
  group_same =
      let eight_of : take 8 (drop (8 * g) (set pasted (w + g) x.merge)) ≡ x.counts =
      past g counts
      ∙ ap (λ (l : List ℕ). take 8 (drop (8 * g) l)) (append_assoc (take (8 * g) row) x.counts (drop (8 * g + 8) row))
      ∙ ap (take 8) (drop_at (take (8 * g) row) (x.counts ++ drop (8 * g + 8) row) (8 * g) front)
      ∙ take_at x.counts (drop (8 * g + 8) row) 8 eight in
      let byte : get_or (set pasted (w + g) x.merge) (w + g) 0 ≡ x.merge = get_or-set_same pasted (w + g) x.merge 0 (rw length_pasted merge) in
      rw (eight_of, byte)

  counts_before : (k : ℕ) → k < g → take 8 (drop (8 * k) pasted) ≡ take 8 (drop (8 * k) row)
  unfolding pasted
  counts_before k h =
      let inside : 8 * k + 8 ≤ length (take (8 * g) row) = rw front (omega arith) in
      ap (λ (l : List ℕ). take 8 (drop (8 * k) l)) (append_assoc (take (8 * g) row) x.counts (drop (8 * g + 8) row))
      ∙ front_part (take (8 * g) row) (x.counts ++ drop (8 * g + 8) row) (8 * k) inside
      ∙ sym (front_part (take (8 * g) row) (drop (8 * g) row) (8 * k) inside)
      ∙ ap (λ (l : List ℕ). take 8 (drop (8 * k) l)) (take-append-drop (8 * g) row)

  counts_after : (k : ℕ) → g < k → drop (8 * k) pasted ≡ drop (8 * k) row
  counts_after k h =
      let j = 8 * k - (8 * g + 8) in
      let e : 8 * k ≡ 8 * g + 8 + j = omega arith in
      rw (e, ← drop-drop j (8 * g + 8) pasted, after, drop-drop j (8 * g + 8) row)

  merge_other : (k : ℕ) → get_or pasted (w + k) 0 ≡ get_or row (w + k) 0
  merge_other k =
      let j = w + k - (8 * g + 8) in
      let e : w + k ≡ 8 * g + 8 + j = omega arith in
      rw (e, ← get_or-drop (8 * g + 8) pasted j 0, after) (get_or-drop (8 * g + 8) row j 0)

  -- a group that keeps its merge byte
  pub with_counts : x.merge ≡ get_or row (w + g) 0 → with_group w row g x ≡ take (8 * g) row ++ x.counts ++ drop (8 * g + 8) row
  unfolding with_group pasted
  with_counts e = rw (e ∙ sym (merge_other g)) (set-get_or pasted (w + g) 0)

  pub group_other : (k : ℕ) → 8 * k + 8 ≤ w → (k ≡ g → ⊥) → group_at w (with_group w row g x) k ≡ group_at w row k
  unfolding group_at with_group pasted
  group_other k h n =
      let byte : get_or (set pasted (w + g) x.merge) (w + k) 0 ≡ get_or row (w + k) 0 =
      get_or-set_other pasted (w + g) (w + k) x.merge 0 (λ e. n (omega arith)) ∙ merge_other k in
      let eight_of : take 8 (drop (8 * k) (set pasted (w + g) x.merge)) ≡ take 8 (drop (8 * k) row) =
      past k h ∙ elim (dec_lt k g) [ yes l ↦ counts_before k l | no m ↦ ap (take 8) (counts_after k (lt_of_le-ne (omega arith) (λ e. n (sym e)))) ] in
      rw (eight_of, byte)

-- count bytes of a group that lies in the row
pub eight_at : (w g : ℕ) (row : List ℕ) → 8 * g + 8 ≤ w → w ≤ length row → length (group_at w row g).counts ≡ 8
unfolding group_at
eight_at w g row h l = length-take-le 8 (drop (8 * g) row) (rw (length-drop (8 * g) row) (omega arith))
