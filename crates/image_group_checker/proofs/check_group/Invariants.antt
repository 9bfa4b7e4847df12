use mathlib.Core.Path.{◌≡◌}
use mathlib.Core.Bool.{true}
use Prim.Native.Nat.{◌-◌, ◌≤◌, ◌<◌}
use Rattle.image_format.specs.Image.{is_first}
use Rattle.image_format.specs.Read.{check_slots}
use Rattle.image_group_checker.proofs.check_group.Given as goal

abbrev pub invariant-loop-k : goal.invariant-loop-k
invariant-loop-k l = (l.k ≤ l.next)
    × (l.next ≤ 8)
    × (l.next < 8 → is_first l.merge l.next ≡ true)
    × (check_slots (8 - l.next) l.next l.merge l.words l.at ≡ check_slots 8 0 l.merge l.words l.p)
