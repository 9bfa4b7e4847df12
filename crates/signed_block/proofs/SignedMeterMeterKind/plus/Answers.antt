use Rattle.signed_number.proofs.Integers.{abs_integer}
use Rattle.signed_block.proofs.SignedMeterMeterKind.plus.Goals as goal

pub plus-requires : goal.plus-requires
plus-requires c = let a = c.args in
    rw (abs_integer a.a.minus a.a.magnitude, abs_integer a.b.minus a.b.magnitude) at c.requires
