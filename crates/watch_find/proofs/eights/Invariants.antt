use Rattle.std.proofs.Common.{◌*◌, ◌/◌, ◌≤◌}
use Rattle.watch_find.specs.Scan.{Sought, Past}
use Rattle.watch_find.proofs.eights.Given as goal

abbrev pub invariant-loop-turn : goal.invariant-loop-turn
invariant-loop-turn l = (l.turn ≤ l.n / 8) × (l.n ≤ 64) × Sought l.list l.key l.sought × Past l.list l.n l.key (8 * l.turn)
