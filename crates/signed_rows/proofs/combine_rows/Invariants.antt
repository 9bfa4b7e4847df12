use mathlib.Core.Path.{◌≡◌}
use Prim.Native.Nat.{◌*◌, ◌≤◌}
use lib.ListN.{length, drop}
use Rattle.meter_memory.specs.Rows.{map_rows}
use Rattle.signed_row.specs.Row.{source_combined}
use Rattle.meter_memory.proofs.Lists.{rows_from}
use Rattle.signed_rows.proofs.combine_rows.Given as goal

abbrev pub invariant-loop-r : goal.invariant-loop-r
invariant-loop-r l = (l.r ≤ l.d)
    × (rows_from (source_combined l.minus l.w l.source) l.stride l.d l.r l.memory ≡ map_rows (source_combined l.minus l.w l.source) l.stride l.d 0 l.initial.memory)
    × (length l.memory ≡ length l.initial.memory)
    × (drop (l.r * l.stride) l.memory ≡ drop (l.r * l.stride) l.initial.memory)
