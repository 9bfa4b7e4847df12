use mathlib.Core.Path.{◌≡◌}
use Prim.Native.Nat.{ℕ, ◌-◌, ◌*◌, ◌≤◌, ◌<◌}
use lib.IntN.{pos}
use lib.ListN.{length, get_or, drop}
use Rattle.answer.specs.Order.{earlier, earliest}
use Rattle.answer.specs.Refusals.{status}
use Rattle.geometry.specs.Geometry.{stride}
use Rattle.meter_memory.specs.Rows.{row_of, of_rows}
use Rattle.signed_row.specs.Hashes.{hash_status, hash_figure}
use Rattle.signed_rows.proofs.read_rows.Given as goal

-- the rows before row r are read
abbrev pub invariant-loop-r : goal.invariant-loop-r
invariant-loop-r l = (l.r ≤ l.d)
    × (earlier (status l.taken) (earliest (of_rows (hash_status l.w l.hashes) (stride l.w) (l.d - l.r) l.r (drop (l.r * stride l.w) l.memory))) ≡ earliest (of_rows (hash_status l.w l.hashes) (stride l.w) l.d 0 l.memory))
    × ((k : ℕ) → k < l.r → get_or l.values k (pos 0) ≡ hash_figure l.w l.hashes k (row_of l.w l.memory k))
    × (length l.values ≡ 8)
