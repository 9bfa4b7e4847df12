use native.Mathlib.Omega.{arith}
use Rattle.group_codes.proofs.Packing.{unpacks, last_unpacked}
use Rattle.image_format.proofs.code_merge.Goals as goal

pub unwrap-requires : goal.unwrap-requires
unwrap-requires c = unpacks c.args.c c.unpack.result (omega arith) c.unpack.ensures

pub returns : goal.returns
returns c = λ h. last_unpacked c.args.c c.unwrap.result h (rw c.unwrap.ensures at c.unpack.ensures)
