-- A signed meter's memory whose groups hold the totals of a traffic: the proof's own terms.
use Prim.Native.Nat.{ℕ, ◌/◌, ◌≤◌, ◌<◌}
use mathlib.Core.Path.{◌≡◌}
use mathlib.Core.List.{List}
use lib.ListN.{length}
use Rattle.geometry.specs.Geometry.{size}
use Rattle.meter_memory.specs.Rows.{row_of, group_at}
use Rattle.signed_group.specs.Results.{Reading}
use Rattle.signed_group.specs.Group.{read}
use Rattle.signed_totals.proofs.Groups as group
use Rattle.signed_claim.specs.Traffic.{Pair, block_total}

pub record Holds (d w : ℕ) (memory : List ℕ) (pairs : List Pair) : Type 0 where
  pub long : length memory ≡ size d w
  pub groups : (r g : ℕ) → r < d → g < w / 8 → group.Holds (block_total w r pairs) g (group_at w (row_of w memory r) g)

-- what slot s of row r reads
abbrev pub counter_of : ℕ → List ℕ → ℕ → ℕ → Reading
counter_of w memory r s = read (group_at w (row_of w memory r) (s / 8)) s

-- no counter's level is lower
abbrev pub Grows : ℕ → ℕ → List ℕ → List ℕ → Type 0
Grows d w memory after = (r s : ℕ) → r < d → s < w → (counter_of w memory r s).level ≤ (counter_of w after r s).level
