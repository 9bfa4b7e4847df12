use Rattle.std.proofs.Common.{Ok, Err}
use mathlib.Core.Path.{ap, ap₂}
use Prim.Native.Nat.{ℕ}
use Rattle.group_layout.specs.Layout.{marks}
use Rattle.group_block.specs.Block.{shape, number_of}
use Rattle.group_block.specs.Sum.{held}
use Rattle.group_block.specs.Passed.{summed_as}
use Rattle.group_block.proofs.held.Goals as goal

pub returns-then-not-holds : goal.returns-then-not-holds
unfolding held summed_as
returns-then-not-holds g c = rw (← c.holds.ensures, c.if-not-holds.true) (ap Err c.requires.fact_2)

pub returns : goal.returns
unfolding held summed_as number_of shape marks
returns g c = rw (← c.holds.ensures, c.if-not-holds.false) (ap₂ (λ (w m : ℕ). Ok (record { word = w; merge = m })) c.bits.ensures c.ones.ensures)
