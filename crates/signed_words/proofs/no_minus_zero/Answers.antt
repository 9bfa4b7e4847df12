use mathlib.Core.Path.{ap, ◌∙◌}
use Prim.Native.Nat.{ℕ}
use native.Mathlib.Omega.{arith}
use lib.Bits.{bit_and, bit_xor}
use lib.Dec.{eqb}
use Rattle.group_layout.specs.Layout.{layout}
use Rattle.group_block.specs.Block.{cap}
use Rattle.signed_words.specs.Words.{nonzero}
use Rattle.signed_words.proofs.Signs.{clean_is}
use Rattle.signed_words.proofs.no_minus_zero.Goals as goal

pub returns : goal.returns
unfolding cap
returns c = let a = c.args in
    let L = layout 3 a.merge in
    ap (λ (x : ℕ). eqb (bit_and (bit_xor x c.tops.result) a.word) 0) c.nonzero.ensures
    ∙ ap (λ (x : ℕ). eqb (bit_and (bit_xor (nonzero L a.word) x) a.word) 0) c.tops.ensures
    ∙ clean_is L a.word (omega arith)
