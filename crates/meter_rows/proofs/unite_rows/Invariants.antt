use mathlib.Core.Path.{◌≡◌}
use Prim.Native.Nat.{◌≤◌}
use lib.ListN.{length}
use Rattle.meter_memory.specs.Rows.{map_rows}
use Rattle.meter_union.specs.Union.{source_added}
use Rattle.meter_memory.proofs.Lists.{rows_from}
use Rattle.meter_rows.proofs.unite_rows.Given as goal

abbrev pub invariant-loop-r : goal.invariant-loop-r
invariant-loop-r l = (l.r ≤ l.d) × (rows_from (source_added l.w l.source) l.stride l.d l.r l.memory ≡ map_rows (source_added l.w l.source) l.stride l.d 0 l.initial.memory) × (length l.memory ≡ length l.initial.memory)
