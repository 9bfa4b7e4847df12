use mathlib.Core.Path.{◌≡◌}
use Prim.Native.Nat.{◌+◌, ◌-◌, ◌*◌, ◌/◌, ◌≤◌}
use lib.ListN.{length, drop}
use Rattle.geometry.specs.Geometry.{largest_width, stride}
use Rattle.image_format.specs.Image.{rows_words}
use Rattle.image_size.proofs.rows_size.Given as goal

abbrev pub invariant-loop-r : goal.invariant-loop-r
invariant-loop-r l = (l.r ≤ l.d) × (l.n ≤ 97 * (largest_width / 32) * l.r) × (l.n + length (rows_words (l.d - l.r) l.w (drop (l.r * stride l.w) l.memory)) ≡ length (rows_words l.d l.w l.memory))
