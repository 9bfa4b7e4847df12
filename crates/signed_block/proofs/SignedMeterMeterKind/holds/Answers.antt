use Rattle.signed_number.proofs.Integers.{abs_integer}
use Rattle.signed_block.proofs.SignedMeterMeterKind.holds.Goals as goal

pub returns : goal.returns
returns c = rw (abs_integer c.args.value.minus c.args.value.magnitude, c.top.ensures)
