use mathlib.Core.Path.{◌≡◌}
use Prim.Native.Nat.{◌+◌, ◌*◌, ◌/◌, ◌≤◌}
use lib.ListN.{length}
use Rattle.geometry.specs.Geometry.{largest_width, stride}
use Rattle.image_format.specs.Read.{read_rows}
use Rattle.image_reader.proofs.Laws.{rows_from}
use Rattle.image_reader.proofs.read_rows.Given as goal

abbrev pub invariant-loop-r : goal.invariant-loop-r
invariant-loop-r l = (l.r ≤ l.d) × (l.size ≡ stride l.w) × (l.at ≤ 1 + 97 * (largest_width / 32) * l.r) × (length l.memory ≡ length l.initial.memory) × (rows_from l.d l.r l.w l.memory l.words l.at ≡ read_rows l.d l.w l.initial.memory l.words 1)
