use mathlib.Core.Path.{◌≡◌}
use Prim.Native.Nat.{◌+◌, ◌-◌, ◌*◌, ◌≤◌}
use Rattle.image_format.specs.Write.{slots_size, group_size}
use Rattle.image_format.specs.Read.{read_slots, read_group}
use Rattle.image_reader.proofs.read_group.Given as goal

abbrev pub invariant-loop-k : goal.invariant-loop-k
invariant-loop-k l = (l.k ≤ 8) × (l.at ≤ l.p + 3 * l.k) × (l.g.merge ≡ l.merge) × (l.at + slots_size (8 - l.k) l.k l.merge ≡ l.p + group_size l.merge) × (read_slots (8 - l.k) l.k l.g l.words l.at ≡ read_group l.merge l.words l.p)
