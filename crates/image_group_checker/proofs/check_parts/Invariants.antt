use mathlib.Core.Path.{◌≡◌}
use Prim.Native.Nat.{◌-◌, ◌≤◌}
use Rattle.image_format.specs.Read.{check_parts}
use Rattle.image_group_checker.proofs.check_parts.Given as goal

abbrev pub invariant-loop : goal.invariant-loop
invariant-loop l = (l.counter ≤ l.n) × (check_parts (l.n - l.counter) l.words l.at l.most ≡ check_parts l.n l.words l.p l.limit)
