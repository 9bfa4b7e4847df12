use Rattle.std.proofs.Common.{arith, le-ltb, lt-ltb}
use Rattle.signed_side.specs.Side.{complement}
use Rattle.signed_side.proofs.complement.Goals as goal

pub returns-then-slot-lt128 : goal.returns-then-slot-lt128
unfolding complement
returns-then-slot-lt128 c = rw (lt-ltb c.args.slot 128 c.if-slot-lt128.true)

pub returns-else-slot-lt128 : goal.returns-else-slot-lt128
unfolding complement
returns-else-slot-lt128 c = let a = c.args in
    rw (le-ltb a.slot 128 c.if-slot-lt128.false) (omega arith)
