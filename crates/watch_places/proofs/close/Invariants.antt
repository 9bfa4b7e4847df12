use mathlib.Core.Path.{◌≡◌}
use Prim.Native.Nat.{◌+◌, ◌-◌, ◌≤◌}
use lib.ListN.{length}
use lib.Seq.{paste}
use Rattle.watch_places.proofs.Pasting.{moved}
use Rattle.watch_places.proofs.close.Given as goal

abbrev pub invariant-loop-i : goal.invariant-loop-i
invariant-loop-i l = (l.at ≤ l.i) × (l.i ≤ l.end) × (l.at + l.width ≤ l.end) × (l.end ≤ length l.initial.list) × (length l.list ≡ length l.initial.list) × (l.list ≡ paste l.initial.list l.at (moved l.initial.list l.at l.end l.width) (l.i - l.at))
