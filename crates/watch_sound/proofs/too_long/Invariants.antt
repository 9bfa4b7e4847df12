use mathlib.Core.Path.{◌≡◌}
use Prim.Native.Nat.{◌+◌, ◌-◌, ◌≤◌}
use lib.ListN.{length, drop}
use Rattle.watch_sound.specs.Lengths.{too_long}
use Rattle.watch_sound.proofs.too_long.Given as goal

abbrev pub invariant-loop-k : goal.invariant-loop-k
invariant-loop-k l = (l.k ≤ 64) × (length l.lengths ≡ 64) × (l.count ≤ l.k) × (l.count + too_long (l.n - l.k) (drop l.k l.lengths) ≡ too_long l.n l.lengths)
