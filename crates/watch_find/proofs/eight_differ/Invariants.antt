use Rattle.std.proofs.Common.{◌+◌, ◌≤◌}
use Rattle.watch_find.specs.Scan.{Sought, AllDiffer}
use Rattle.watch_find.proofs.eight_differ.Given as goal

abbrev pub invariant-loop-i : goal.invariant-loop-i
invariant-loop-i l = (l.i ≤ 8) × (l.k + 8 ≤ 64) × Sought l.list l.key l.sought × AllDiffer l.list l.k l.i l.key
