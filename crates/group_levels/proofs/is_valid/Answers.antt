use native.Mathlib.Omega.{arith}
use lib.Bits.{and_le_r}
use borrow.Author.Tests.{eq-eqb, ne_eqb}
use Rattle.group_levels.proofs.Byte.{low_valid, bits_valid}
use Rattle.group_levels.proofs.is_valid.Goals as goal

pub overflow_shr-bits : goal.overflow_shr-bits
overflow_shr-bits c = omega (arith, and_le_r c.args.merge 31)

pub returns-then-bits-eq0 : goal.returns-then-bits-eq0
returns-then-bits-eq0 c = rw (eq-eqb (low_valid c.args.merge) 0 c.if-bits-eq0.true) at (bits_valid c.args.merge (omega arith))

pub returns : goal.returns
returns c = rw (ne_eqb (low_valid c.args.merge) 0 c.if-bits-eq0.false) at (bits_valid c.args.merge (omega arith))
