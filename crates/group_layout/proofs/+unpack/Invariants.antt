use Prim.Native.Nat.{◌-◌}
use Rattle.group_layout.proofs.+unpack.Given as goal

abbrev pub decreases-unpack : goal.decreases-unpack
decreases-unpack l = l.level
