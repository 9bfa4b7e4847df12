use mathlib.Core.Path.{refl}
use native.Mathlib.Omega.{arith}
use Rattle.image_format.specs.Image.{word_count}
use Rattle.image_format.proofs.Laws.{small_shl}
use lib.Pow.{pow_mono, pow_pos}
use Rattle.image_format.proofs.word_count.Goals as goal

pub overflow_add-result : goal.overflow_add-result
overflow_add-result c = omega (arith, small_shl 8 c.args.level (omega arith) (omega arith), pow_mono {i = c.args.level} {j = 3} (omega arith))

pub returns : goal.returns
unfolding word_count
returns c = let l = c.args.level in rw (small_shl 8 l (omega arith) (omega arith)) (record { value = refl; lower_bound = (omega (arith, pow_pos l), omega (arith, pow_mono {i = l} {j = 3} (omega arith))) })
