-- What is read of rows, gathered one by one: for any reading of a row.
use mathlib.Core.Path.{◌≡◌, sym, ap, ◌∙◌}
use mathlib.Core.List.{List}
use Prim.Native.Nat.{ℕ, ◌+◌, ◌-◌, ◌*◌, ◌≤◌, ◌<◌, ◌^◌, min, max}
use native.Mathlib.Nat.{max-zero}
use native.Mathlib.Omega.{arith}
use lib.ListN.{drop}
use Rattle.geometry.specs.Geometry.{stride}
use Rattle.answer.specs.Order.{earlier, earliest}
use Rattle.meter_memory.specs.Rows.{row_of, of_rows, least_or, least, largest}
use Rattle.answer.proofs.Order.{earlier_none, earlier_assoc}
use Rattle.meter_memory.proofs.Lists.{rows_read, rows_read_none, rows_read_all}

module _ (f : ℕ → List ℕ → ℕ) (w : ℕ) (d r : ℕ) (memory : List ℕ) where
  pub status_turn : (s x : ℕ) → r < d → x ≡ f r (row_of w memory r)
      → earlier (earlier s x) (earliest (of_rows f (stride w) (d - (r + 1)) (r + 1) (drop ((r + 1) * stride w) memory)))
      ≡ earlier s (earliest (of_rows f (stride w) (d - r) r (drop (r * stride w) memory)))
  unfolding earliest row_of
  status_turn s x h e =
      rw (rows_read f (stride w) d r memory h, e)
      (earlier_assoc s (f r (row_of w memory r)) (earliest (of_rows f (stride w) (d - (r + 1)) (r + 1) (drop ((r + 1) * stride w) memory))))

  pub status_end : (s : ℕ) → d ≤ r → earlier s (earliest (of_rows f (stride w) (d - r) r (drop (r * stride w) memory))) ≡ s
  unfolding earliest
  status_end s h = rw (rows_read_none f (stride w) d r (drop (r * stride w) memory) h) (earlier_none s)

  pub level_turn : (v x : ℕ) → r < d → x ≡ f r (row_of w memory r)
      → max (max v x) (largest (of_rows f (stride w) (d - (r + 1)) (r + 1) (drop ((r + 1) * stride w) memory)))
      ≡ max v (largest (of_rows f (stride w) (d - r) r (drop (r * stride w) memory)))
  unfolding largest row_of
  level_turn v x h e = rw (rows_read f (stride w) d r memory h, e) (omega arith)

  pub level_end : (v : ℕ) → d ≤ r → max v (largest (of_rows f (stride w) (d - r) r (drop (r * stride w) memory))) ≡ v
  unfolding largest
  level_end v h = rw (rows_read_none f (stride w) d r (drop (r * stride w) memory) h) (max-zero v)

-- the least value, from row 0 on
module _ (f : ℕ → List ℕ → ℕ) (w d : ℕ) (memory : List ℕ) where
  pub least_start : 1 ≤ d → least_or (f 0 (row_of w memory 0)) (of_rows f (stride w) (d - 1) 1 (drop (1 * stride w) memory)) ≡ least (of_rows f (stride w) d 0 memory)
  unfolding least row_of
  least_start h = sym (ap least (sym (rows_read_all f (stride w) d memory) ∙ rows_read f (stride w) d 0 memory h))

  pub least_turn : (r v x : ℕ) → r < d → x ≡ f r (row_of w memory r)
      → least_or (min v x) (of_rows f (stride w) (d - (r + 1)) (r + 1) (drop ((r + 1) * stride w) memory))
      ≡ least_or v (of_rows f (stride w) (d - r) r (drop (r * stride w) memory))
  unfolding least_or row_of
  least_turn r v x h e = rw (rows_read f (stride w) d r memory h, e)

  pub least_end : (r v : ℕ) → d ≤ r → least_or v (of_rows f (stride w) (d - r) r (drop (r * stride w) memory)) ≡ v
  unfolding least_or
  least_end r v h = rw (rows_read_none f (stride w) d r (drop (r * stride w) memory) h)

  -- from the largest number of 64 bits on, where row 0 has no larger
  pub least_first : 1 ≤ d → f 0 (row_of w memory 0) < 2 ^ 64 → least_or (2 ^ 64 - 1) (of_rows f (stride w) d 0 memory) ≡ least (of_rows f (stride w) d 0 memory)
  unfolding least_or least row_of
  least_first h l =
      let same : min (2 ^ 64 - 1) (f 0 (row_of w memory 0)) ≡ f 0 (row_of w memory 0) = omega (arith, l) in
      rw (sym (rows_read_all f (stride w) d memory) ∙ rows_read f (stride w) d 0 memory h) (ap (λ (v : ℕ). least_or v (of_rows f (stride w) (d - 1) 1 (drop (1 * stride w) memory))) same)

  pub statuses_start : 1 ≤ d → earlier (f 0 (row_of w memory 0)) (earliest (of_rows f (stride w) (d - 1) 1 (drop (1 * stride w) memory))) ≡ earliest (of_rows f (stride w) d 0 memory)
  unfolding earliest row_of
  statuses_start h = sym (ap earliest (sym (rows_read_all f (stride w) d memory) ∙ rows_read f (stride w) d 0 memory h))

pub rows_start : (f : ℕ → List ℕ → ℕ) (w d : ℕ) (memory : List ℕ) → earlier 0 (earliest (of_rows f (stride w) (d - 0) 0 (drop (0 * stride w) memory))) ≡ earliest (of_rows f (stride w) d 0 memory)
unfolding earlier
rows_start f w d memory = ap earliest (rows_read_all f (stride w) d memory)

pub levels_start : (f : ℕ → List ℕ → ℕ) (w d : ℕ) (memory : List ℕ) → max 0 (largest (of_rows f (stride w) (d - 0) 0 (drop (0 * stride w) memory))) ≡ largest (of_rows f (stride w) d 0 memory)
levels_start f w d memory = rw (rows_read_all f (stride w) d memory) (omega arith)
