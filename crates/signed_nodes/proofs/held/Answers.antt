use Prim.Native.Nat.{◌+◌}
use Rattle.signed_nodes.specs.Nodes.{bias}
use Rattle.signed_number.proofs.Raised.{sub_size}
use Rattle.signed_nodes.proofs.Nodes.{held_tells}
use Rattle.signed_nodes.proofs.held.Goals as goal

pub returns : goal.returns
returns c = let a = c.args in
    rw (c.top.ensures, c.abs_diff.ensures, c.bias.ensures.value, ← sub_size a.sum (bias (a.level + 1)), c.sum_bits.ensures, c.ones.ensures) (held_tells a.level _)
