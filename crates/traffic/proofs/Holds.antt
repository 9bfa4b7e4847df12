-- A memory whose groups hold the totals of a traffic: the proof's own terms.
use Prim.Native.Nat.{ℕ, ◌-◌, ◌/◌, ◌%◌, ◌<◌}
use mathlib.Core.Path.{◌≡◌}
use mathlib.Core.Bool.{cond}
use mathlib.Core.List.{List}
use lib.Dec.{ltb}
use lib.ListN.{length, get_or}
use Rattle.group_block.specs.Block.{cap}
use Rattle.group.specs.declared.Group.{Group}
use Rattle.group_totals.proofs.Groups.{group_of}
use Rattle.geometry.specs.Geometry.{stride, size}
use Rattle.meter_memory.specs.Rows.{group_at}
use Rattle.meter.specs.Meter.{row_of}
use Rattle.traffic.specs.Traffic.{Pair, block_total}

-- A meter's memory that holds a traffic: each group of each row is the one that the totals leave, and none is over.
pub record Holds (d w : ℕ) (memory : List ℕ) (pairs : List Pair) : Type 0 where
  pub long : length memory ≡ size d w
  pub fits : (r g : ℕ) → r < d → g < w / 8 → block_total w r pairs 3 g < cap 3
  pub groups : (r g : ℕ) → r < d → g < w / 8 → group_at w (row_of w memory r) g ≡ group_of (block_total w r pairs) g

-- byte j of a row of w slots with these groups, and byte i of a memory that holds a traffic
unfoldable pub byte_in : ℕ → (ℕ → Group) → ℕ → ℕ
byte_in w groups j = cond (ltb j w) (get_or (groups (j / 8)).counts (j % 8) 0) (groups (j - w)).merge

unfoldable pub byte_at : ℕ → List Pair → ℕ → ℕ
byte_at w pairs i = byte_in w (group_of (block_total w (i / stride w) pairs)) (i % stride w)
