use mathlib.Core.Path.{◌≡◌}
use Prim.Native.Nat.{◌*◌, ◌/◌, ◌≤◌}
use lib.ListN.{length, take}
use Rattle.watch_key.proofs.same_bytes.Given as goal

abbrev pub invariant-loop-i : goal.invariant-loop-i
invariant-loop-i l = (l.i ≤ l.words) × (l.words ≡ length l.a / 8) × (length l.a ≡ length l.b) × (take (l.i * 8) l.a ≡ take (l.i * 8) l.b)
