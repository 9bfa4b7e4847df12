use Rattle.group_block.proofs.Laws.{halves_le}
use native.Mathlib.Omega.{arith}
use Rattle.group_union.proofs.pair_sum.Goals as goal

pub overflow_add-result : goal.overflow_add-result
overflow_add-result c = let a = c.args in
    omega (arith, halves_le a.half a.word, c.low_word.ensures, c.high_word.ensures)
