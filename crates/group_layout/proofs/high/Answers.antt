use mathlib.Core.Path.{ap}
use Prim.Native.Nat.{ℕ, ◌/◌, ◌^◌}
use Rattle.group_layout.proofs.high.Goals as goal

pub returns : goal.returns
returns c = ap (λ (k : ℕ). c.args.merge / 2 ^ k) c.slots.ensures.value
