use mathlib.Core.Path.{sym}
use borrow.Author.Tests.{le-leb, lt-leb}
use lib.Dec.{leb}
use Rattle.answer.specs.Order.{earlier}
use Rattle.answer.specs.Refusals.{number, status}
use Rattle.watch_checks.proofs.Lines.{five_first}
use Rattle.watch_checks.proofs.check_content.Goals as goal

pub returns-then-not-sound : goal.returns-then-not-sound
unfolding status number
returns-then-not-sound c = rw (c.if-not-sound.true) (sym (five_first (leb 1 c.args.threshold)))

pub returns-then-threshold-lt1 : goal.returns-then-threshold-lt1
unfolding earlier status number
returns-then-threshold-lt1 c = rw (c.if-not-sound.false, lt-leb _ _ c.if-threshold-lt1.true)

pub returns : goal.returns
unfolding earlier status number
returns c = rw (c.if-not-sound.false, le-leb _ _ c.if-threshold-lt1.false)
