use mathlib.Core.Path.{ap, ◌∙◌}
use native.Mathlib.Omega.{arith}
use lib.Bits.{bit_xor}
use Rattle.group_layout.specs.Layout.{layout}
use Rattle.group_block.specs.Block.{cap, block_as}
use Rattle.signed_words.proofs.Signs.{negated_is}
use Rattle.signed_words.proofs.negated.Goals as goal

pub returns : goal.returns
unfolding cap block_as
returns c = let a = c.args in
    ap (bit_xor a.word) c.nonzero.ensures ∙ negated_is (layout 3 a.merge) a.word (omega arith) c.requires.fact_2
