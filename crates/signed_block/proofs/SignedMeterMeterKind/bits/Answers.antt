use Rattle.signed_number.proofs.Integers.{abs_integer}
use Rattle.signed_block.proofs.SignedMeterMeterKind.bits.Goals as goal

pub bits-requires-clause-fact_2 : goal.bits-requires-clause-fact_2
bits-requires-clause-fact_2 c = rw (abs_integer c.args.value.minus c.args.value.magnitude) at c.requires.held
