use mathlib.Core.Path.{refl}
use native.Mathlib.Omega.{arith}
use Rattle.image_format.specs.Image.{word_count}
use Rattle.image_format.specs.Read.{first_bits}
use Rattle.image_format.proofs.Laws.{small_shl}
use lib.Pow.{pow_pos}
use Rattle.image_format.proofs.first_bits.Goals as goal

pub overflow_sub-result-2 : goal.overflow_sub-result-2
unfolding word_count
overflow_sub-result-2 c = let l = c.args.level in
    omega (arith, c.word_count.ensures.value, small_shl 8 l (omega arith) (omega arith), pow_pos l)

pub returns : goal.returns
unfolding first_bits word_count
returns c = let l = c.args.level in rw (small_shl 8 l (omega arith) (omega arith), c.word_count.ensures.value) (record { value = refl; upper_bound = omega (arith, pow_pos l) })
