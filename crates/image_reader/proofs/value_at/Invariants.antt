use mathlib.Core.Path.{◌≡◌}
use Prim.Native.Nat.{◌+◌, ◌-◌, ◌≤◌}
use Rattle.image_format.specs.Read.{value_from}
use Rattle.image_reader.proofs.value_at.Given as goal

abbrev pub invariant-loop-at : goal.invariant-loop-at
invariant-loop-at l = (l.at ≤ l.p + l.n) × (l.at-end ≡ l.p + l.n) × (value_from (l.p + l.n - l.at) l.v l.words l.at ≡ value_from l.n 0 l.words l.p)
