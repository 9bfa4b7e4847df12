use mathlib.Core.Path.{◌≡◌, ap, ◌∙◌}
use Prim.Native.Nat.{ℕ, ◌+◌, ◌-◌, ◌<◌, ◌^◌}
use native.Mathlib.Omega.{arith}
use lib.Bits.{bit_and, bit_xor}
use Rattle.group_layout.specs.Layout.{layout}
use Rattle.group_block.specs.Block.{cap}
use Rattle.signed_words.specs.Words.{tops}
use Rattle.signed_words.proofs.Signs.{turned_tops, sum_lt, nonzero_is}
use Rattle.signed_words.proofs.nonzero.Goals as goal

-- the bits of magnitudes
rest_is : (m t : ℕ) → t ≡ tops (layout 3 m) → bit_xor t (2 ^ 64 - 1) ≡ cap 3 - 1 - tops (layout 3 m)
unfolding cap
rest_is m t e = ap (λ (x : ℕ). bit_xor x (2 ^ 64 - 1)) e ∙ turned_tops (layout 3 m)

sum_in : (w m t : ℕ) → t ≡ tops (layout 3 m) → bit_and w (bit_xor t (2 ^ 64 - 1)) + bit_xor t (2 ^ 64 - 1) < 2 ^ 64
unfolding cap
sum_in w m t e = rw (rest_is m t e) (sum_lt (layout 3 m) w)

pub overflow_add-result : goal.overflow_add-result
overflow_add-result c = let a = c.args in omega (arith, sum_in a.word a.merge c.tops-signs.result c.tops-signs.ensures)

pub returns : goal.returns
returns c = let a = c.args in
    let rest = bit_xor c.tops-signs.result (2 ^ 64 - 1) in
    ap (bit_and (bit_and a.word rest + rest)) c.tops-signs.ensures
    ∙ ap (λ (x : ℕ). bit_and (bit_and a.word x + x) (tops (layout 3 a.merge))) (rest_is a.merge c.tops-signs.result c.tops-signs.ensures)
    ∙ nonzero_is (layout 3 a.merge) a.word
