use mathlib.Core.Path.{sym, ap, ◌∙◌}
use mathlib.Core.Bool.{Bool}
use native.Mathlib.Omega.{arith}
use Rattle.group_block.specs.Block.{cap, number_of}
use Rattle.group_block.proofs.Laws.{word_block_of}
use Rattle.signed_block.specs.Signed.{times_block}
use Rattle.signed_block.specs.Passed.{signed_block}
use Rattle.signed_block.proofs.Counters.{signed_codes}
use Rattle.signed_block.proofs.Times.{times_none}
use Rattle.signed_words.proofs.times_sign.Goals as goal

pub returns-then-minus : goal.returns-then-minus
returns-then-minus c = let a = c.args in
    c.negated.ensures ∙ ap (λ (t : Bool). number_of (times_block t (signed_block 3 a.word a.merge))) (sym c.if-minus.true)

pub returns : goal.returns
unfolding cap
returns c = let a = c.args in
    rw (c.if-minus.false, times_none (signed_block 3 a.word a.merge)) (sym (word_block_of signed_codes 3 a.word a.merge (omega arith) c.requires.fact_2))
