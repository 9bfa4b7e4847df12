use native.Mathlib.Omega.{arith}
use Rattle.group_block.proofs.Laws.{cap_below}
use Rattle.signed_block.proofs.Counters.{top_half}
use Rattle.signed_nodes.proofs.Integers.{raised_plus, raised_minus}
use Rattle.signed_nodes.proofs.raised.Goals as goal

pub overflow_add-result : goal.overflow_add-result
overflow_add-result c = omega (arith, cap_below c.args.level c.requires.fact_1)

pub overflow_add-result-else-bits-sign : goal.overflow_add-result-else-bits-sign
overflow_add-result-else-bits-sign c = omega (arith, top_half c.args.level c.requires.fact_1)

pub overflow_sub-result : goal.overflow_sub-result
overflow_sub-result c = omega (arith, cap_below c.args.level c.requires.fact_1)

pub returns-then-bits-sign : goal.returns-then-bits-sign
returns-then-bits-sign c = let a = c.args in rw c.bias.ensures.value (raised_plus a.level a.bits (omega arith))

pub returns-else-bits-sign : goal.returns-else-bits-sign
returns-else-bits-sign c = let a = c.args in rw (c.bias-else-bits-sign.ensures.value, c.top-sign.ensures) (raised_minus a.level a.bits (omega arith) (omega (arith, cap_below a.level c.requires.fact_1)))
