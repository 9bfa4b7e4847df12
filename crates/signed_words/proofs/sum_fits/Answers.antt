use mathlib.Core.Path.{sym, ap, ap₂, ◌∙◌}
use Prim.Native.Nat.{ℕ, ◌^◌}
use native.Mathlib.Omega.{arith}
use lib.Dec.{ltb}
use lib.IntN.{ℤ, ◌+ℤ◌, nat_abs}
use Rattle.group_block.specs.Block.{cap}
use Rattle.group_sums.proofs.Places.{both_clear}
use Rattle.signed_number.specs.declared.Signed.{Signed}
use Rattle.signed_number.specs.Number.{times_sign}
use Rattle.signed_number.proofs.Integers.{magnitude_of}
use Rattle.signed_block.specs.Signed.{top}
use Rattle.signed_words.proofs.Totals.{times_integer, halves_fit}
use Rattle.signed_words.proofs.sum_fits.Goals as goal

pub returns-then-merge-other_merge-eq0 : goal.returns-then-merge-other_merge-eq0
unfolding cap
returns-then-merge-other_merge-eq0 c = let a = c.args in
    let z = both_clear a.merge a.other_merge c.if-merge-other_merge-eq0.true in
    sym (halves_fit a.minus a.word a.merge a.other_word a.other_merge (omega arith) (omega arith) z.0 z.1)

pub total-other-requires : goal.total-other-requires
unfolding cap
total-other-requires c = (omega arith, omega arith)

pub total-requires : goal.total-requires
unfolding cap
total-requires c = (omega arith, omega arith)

pub plus-requires : goal.plus-requires
unfolding top
plus-requires c = omega (arith, c.total.ensures.magnitude_bound, c.total-other.ensures.magnitude_bound)

pub returns : goal.returns
unfolding top
returns c = let a = c.args in
    ap (λ (x : Signed). ltb x.magnitude (2 ^ 63)) c.plus.ensures.value
    ∙ ap (λ (x : ℕ). ltb x (2 ^ 63)) (magnitude_of _)
    ∙ ap₂ (λ (x y : ℤ). ltb (nat_abs (x +ℤ y)) (2 ^ 63)) c.total.ensures.result_value
    (times_integer a.minus c.total-other.result.minus c.total-other.result.magnitude ∙ ap (times_sign a.minus) c.total-other.ensures.result_value)
