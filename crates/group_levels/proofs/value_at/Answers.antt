use Prim.Native.Nat.{◌*◌, ◌/◌, ◌^◌}
use lib.Bits.{and_mask}
use Rattle.group_block.specs.Block.{cap}
use Rattle.group_levels.proofs.value_at.Goals as goal

pub returns : goal.returns
unfolding cap
returns c = let a = c.args in
    rw c.most.ensures (and_mask (a.word / 2 ^ a.place) (8 * 2 ^ a.level))
