use mathlib.Core.Path.{◌≡◌}
use mathlib.Core.List.{List, ◌++◌}
use Prim.Native.Nat.{ℕ, ◌+◌, ◌-◌, ◌≤◌}
use lib.ListN.{length, replicate}
use lib.Seq.{paste}
use Rattle.watch_places.proofs.put_key.Given as goal

-- the bytes of the place's key
abbrev pub padded : List ℕ → List ℕ
padded key = key ++ replicate (64 - length key) 0

abbrev pub invariant-loop-i : goal.invariant-loop-i
invariant-loop-i l = (l.i ≤ 64) × (l.at + 64 ≤ length l.initial.list) × (length l.key ≤ 64) × (length l.list ≡ length l.initial.list) × (l.list ≡ paste l.initial.list l.at (padded l.key) l.i)
