use mathlib.Core.Path.{◌≡◌}
use Prim.Native.Nat.{◌-◌, ◌≤◌}
use Rattle.image_format.specs.Read.{check_fours}
use Rattle.image_checker.proofs.check_fours.Given as goal

abbrev pub invariant-loop : goal.invariant-loop
invariant-loop l = (l.counter ≤ l.n) × (check_fours (l.n - l.counter) l.words l.at ≡ check_fours l.n l.words l.p)
