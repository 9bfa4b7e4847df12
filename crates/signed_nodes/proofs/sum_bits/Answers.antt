use mathlib.Core.Path.{sym}
use Prim.Native.Nat.{◌+◌}
use native.Mathlib.Omega.{arith}
use Rattle.signed_block.proofs.Counters.{top_most}
use Rattle.signed_nodes.specs.Nodes.{bias}
use Rattle.signed_nodes.proofs.Integers.{bits_sub_plus, bits_sub_minus}
use Rattle.signed_nodes.proofs.sum_bits.Goals as goal

pub overflow_add-result : goal.overflow_add-result
overflow_add-result c = omega (arith, top_most c.args.level c.requires)

pub returns-then-sum-zero : goal.returns-then-sum-zero
returns-then-sum-zero c = let a = c.args in
    rw (c.bias-zero.ensures.value, c.top.ensures) (sym (bits_sub_minus a.level a.sum (bias (a.level + 1)) (omega arith)))

pub returns : goal.returns
returns c = let a = c.args in
    rw c.bias-zero.ensures.value (sym (bits_sub_plus a.level a.sum (bias (a.level + 1)) (omega arith)))
