-- A memory that a meter's calls can have left. Cited by theorems.
use Rattle.std.specs.Prelude.{ℕ, ◌/◌, ◌≤◌, ◌<◌, ◌≡◌, true, List, length}
use Rattle.group.specs.Group.{valid_merge}
use Rattle.geometry.specs.Geometry.{RowsIn}
use Rattle.meter_memory.specs.Rows.{group_at}
use Rattle.meter.specs.Meter.{row_of}

-- a memory of the right length with valid merge bytes
pub record Valid (d w : ℕ) (memory : List ℕ) : Type 0 where
  pub some : 1 ≤ d
  pub rows : RowsIn d w (length memory)
  pub merges : (r g : ℕ) → r < d → g < w / 8 → valid_merge (group_at w (row_of w memory r) g).merge ≡ true
