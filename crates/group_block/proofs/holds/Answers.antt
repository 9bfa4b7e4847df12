use mathlib.Core.Path.{sym}
use Rattle.group_block.specs.Block.{cap}
use borrow.Author.Tests.{lt-ltb}
use Rattle.group_block.proofs.Laws.{zero_high}
use Rattle.group_block.proofs.holds.Goals as goal

pub returns-then-level-eq3 : goal.returns-then-level-eq3
unfolding cap
returns-then-level-eq3 c = sym (lt-ltb c.args.value (cap c.args.level) (rw c.if-level-eq3.true c.ranges.value.fits))

pub returns : goal.returns
returns c = rw c.high_word.ensures (zero_high c.args.level c.args.value)
