use Prim.Native.Nat.{◌%◌}
use borrow.Author.Tests.{eq-eqb, ne_eqb}
use Rattle.answer.specs.Refusals.{number, status}
use Rattle.signed.proofs.check_parity.Goals as goal

pub returns-then-d-eq1 : goal.returns-then-d-eq1
unfolding status
returns-then-d-eq1 c = rw (eq-eqb (c.args.d % 2) 1 c.if-d-eq1.true)

pub returns : goal.returns
unfolding status number
returns c = rw (ne_eqb (c.args.d % 2) 1 c.if-d-eq1.false)
