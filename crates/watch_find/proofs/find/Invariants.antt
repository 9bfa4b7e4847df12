use mathlib.Core.Path.{◌≡◌}
use Prim.Native.Nat.{◌+◌, ◌-◌, ◌≤◌}
use Rattle.watch_list.specs.Layout.{places_from}
use Rattle.watch_list.specs.Parts.{Holds, KeyLong, index_of}
use Rattle.watch_find.proofs.find.Given as goal

abbrev pub invariant-loop-k : goal.invariant-loop-k
invariant-loop-k l = (l.k ≤ l.n) × (l.n ≤ 64) × Holds l.list l.n × KeyLong l.key × (l.k + index_of l.key (places_from l.list (l.n - l.k) l.k) ≡ index_of l.key (places_from l.list l.n 0))
