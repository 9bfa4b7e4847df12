use borrow.Author.Tests.{lt-ltb, le-ltb}
use Rattle.signed_words.specs.Words.{raised}
use Rattle.signed_words.proofs.raised.Goals as goal

pub returns-then-bits-top : goal.returns-then-bits-top
unfolding raised
returns-then-bits-top c = rw (lt-ltb _ _ c.if-bits-top.true)

pub returns : goal.returns
unfolding raised
returns c = rw (le-ltb _ _ c.if-bits-top.false)
