use Prim.Native.Nat.{ℕ, ◌*◌, ◌<◌}
use native.Mathlib.Omega.{arith}
use lib.Bits.{bit_xor, and_le_r, xor_lt}
use Rattle.signed_words.proofs.Signs.{tops_mask}
use Rattle.signed_words.proofs.tops.Goals as goal

turned_lt : (m : ℕ) → m < 256 → bit_xor 127 m < 256
turned_lt m h = xor_lt 8 127 m (omega arith) h

pub overflow_cast-result : goal.overflow_cast-result
overflow_cast-result c = omega (arith, turned_lt c.args.merge (omega arith))

pub overflow_mul-result : goal.overflow_mul-result
overflow_mul-result c = omega (arith, turned_lt c.args.merge (omega arith))

pub overflow_mul-result-2 : goal.overflow_mul-result-2
overflow_mul-result-2 c = omega (arith, and_le_r (bit_xor 127 c.args.merge * 4432676798593) 282578800148737)

pub overflow_add-result : goal.overflow_add-result
overflow_add-result c = omega (arith, and_le_r (bit_xor 127 c.args.merge * 4432676798593) 282578800148737)

pub returns : goal.returns
returns c = tops_mask c.args.merge c.requires
