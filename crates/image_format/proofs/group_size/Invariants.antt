use mathlib.Core.Path.{◌≡◌}
use Prim.Native.Nat.{◌+◌, ◌-◌, ◌*◌, ◌≤◌}
use Rattle.image_format.specs.Write.{slots_size, group_size}
use Rattle.image_format.proofs.group_size.Given as goal

abbrev pub invariant-loop-k : goal.invariant-loop-k
invariant-loop-k l = (l.k ≤ 8) × (l.n ≤ 3 * l.k) × (l.n + slots_size (8 - l.k) l.k l.merge ≡ group_size l.merge)
