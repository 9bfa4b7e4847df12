use mathlib.Core.Path.{ap}
use Prim.Native.Nat.{ℕ, ◌*◌, ◌/◌, ◌^◌}
use Rattle.group_block.specs.Block.{cap}
use Rattle.group_block.proofs.high_word.Goals as goal

pub returns : goal.returns
unfolding cap
returns c = ap (λ (k : ℕ). c.args.word / 2 ^ (8 * k)) c.slots.ensures.value
