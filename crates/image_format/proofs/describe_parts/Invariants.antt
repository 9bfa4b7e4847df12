use mathlib.Core.Path.{◌≡◌}
use mathlib.Core.List.{List, ◌++◌}
use Prim.Native.Nat.{◌+◌, ◌≤◌}
use lib.ListN.{length, take, drop}
use Rattle.image_format.specs.Fields.{Field, part_fields, Told}
use Rattle.image_format.proofs.describe_parts.Given as goal

abbrev pub invariant-loop-left : goal.invariant-loop-left
invariant-loop-left l = (l.j + l.left ≡ l.i + l.n) × (length l.t ≡ length l.initial.t) × (l.b ≤ 24) × (take l.at l.t ≡ take l.at l.initial.t)
    × ((fs rest : List Field) → drop l.i fs ≡ part_fields l.n l.place l.bits ++ rest → Told fs l.i l.initial.t l.at → (drop l.j fs ≡ part_fields l.left l.place l.b ++ rest) × Told fs l.j l.t l.at)
