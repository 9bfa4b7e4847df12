use Prim.Native.Nat.{◌-◌}
use Rattle.group_layout.proofs.+layouts.Given as goal

abbrev pub decreases-layouts : goal.decreases-layouts
decreases-layouts l = l.level
