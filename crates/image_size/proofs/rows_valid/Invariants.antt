use mathlib.Core.Path.{◌≡◌}
use Prim.Native.Nat.{◌-◌, ◌*◌, ◌≤◌}
use lib.ListN.{drop}
use Rattle.geometry.specs.Geometry.{stride}
use Rattle.image_format.specs.Write.{valid_rows}
use Rattle.image_size.proofs.rows_valid.Given as goal

abbrev pub invariant-loop-r : goal.invariant-loop-r
invariant-loop-r l = (l.r ≤ l.d) × (valid_rows (l.d - l.r) l.w (drop (l.r * stride l.w) l.memory) ≡ valid_rows l.d l.w l.memory)
