use mathlib.Core.Path.{◌≡◌}
use Prim.Native.Nat.{◌+◌, ◌-◌, ◌≤◌}
use lib.ListN.{length, take, drop}
use Rattle.image_format.specs.Fields.{slots_fields, group_fields, Told}
use Rattle.image_format.specs.Write.{slots_size, group_size}
use Rattle.image_format.proofs.describe.Given as goal

abbrev pub invariant-loop-k : goal.invariant-loop-k
invariant-loop-k l = (l.k ≤ 8) × (l.i + slots_size (8 - l.k) l.k l.merge ≡ group_size l.merge) × (length l.t ≡ length l.initial.t)
    × (take l.at l.t ≡ take l.at l.initial.t) × (drop l.i (group_fields l.merge) ≡ slots_fields (8 - l.k) l.k l.merge) × Told (group_fields l.merge) l.i l.t l.at
