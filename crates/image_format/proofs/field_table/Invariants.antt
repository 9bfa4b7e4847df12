use mathlib.Core.Path.{◌≡◌}
use Prim.Native.Nat.{◌≤◌}
use lib.ListN.{length}
use Rattle.image_format.specs.Tables.{FirstFields}
use Rattle.image_format.proofs.field_table.Given as goal

abbrev pub invariant-loop-c : goal.invariant-loop-c
invariant-loop-c l = (l.c ≤ l.n) × (length l.t ≡ 442) × FirstFields l.c l.t
