-- Rows of two memories, read and written by two functions that agree on them.
use mathlib.Core.Path.{◌≡◌, refl, ap₂}
use mathlib.Core.List.{List, ◌∷◌, ◌++◌}
use Prim.Native.Nat.{ℕ, zero, suc, ◌+◌, ◌*◌, ◌<◌}
use native.Mathlib.Nat.{zero-mul, suc-mul, add-zero}
use native.Mathlib.Omega.{arith}
use lib.ListN.{take, drop}
use lib.Seq.{drop-drop}
use Rattle.meter_memory.specs.Rows.{map_rows, of_rows}

module _ {A : Type 0} (s : ℕ) (f g : ℕ → List ℕ → A) where
  -- the functions agree on n rows, the first of which is row r
  abbrev pub Agree : ℕ → ℕ → List ℕ → List ℕ → Type 0
  Agree n r memory other = (k : ℕ) → k < n → f (r + k) (take s (drop (k * s) memory)) ≡ g (r + k) (take s (drop (k * s) other))

  later : (n r : ℕ) (memory other : List ℕ) → Agree (suc n) r memory other → Agree n (r + 1) (drop s memory) (drop s other)
  later n r memory other h k l =
      let at : suc k * s ≡ s + k * s = omega (arith, suc-mul k s) in
      let index : r + suc k ≡ r + 1 + k = omega arith in
      rw (drop-drop (k * s) s memory, drop-drop (k * s) s other, ← at, ← index) (h (suc k) (omega arith))

  first : (n r : ℕ) (memory other : List ℕ) → Agree (suc n) r memory other → f r (take s memory) ≡ g r (take s other)
  first n r memory other h = rw (zero-mul s, add-zero r) at (h 0 (omega arith))

pub reads_same : {A : Type 0} (s : ℕ) (f g : ℕ → List ℕ → A) (n r : ℕ) (memory other : List ℕ) → Agree s f g n r memory other → of_rows f s n r memory ≡ of_rows g s n r other
unfolding of_rows
reads_same s f g zero r memory other h = refl
reads_same s f g (suc n) r memory other h =
    ap₂ ◌∷◌ (first s f g n r memory other h) (reads_same s f g n (r + 1) (drop s memory) (drop s other) (later s f g n r memory other h))

pub maps_same : (s : ℕ) (f g : ℕ → List ℕ → List ℕ) (n r : ℕ) (memory : List ℕ) → Agree s f g n r memory memory → map_rows f s n r memory ≡ map_rows g s n r memory
unfolding map_rows
maps_same s f g zero r memory h = refl
maps_same s f g (suc n) r memory h = ap₂ ◌++◌ (first s f g n r memory memory h) (maps_same s f g n (r + 1) (drop s memory) (later s f g n r memory memory h))
