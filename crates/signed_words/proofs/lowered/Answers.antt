use borrow.Author.Tests.{lt-ltb, le-ltb}
use Rattle.signed_words.specs.Words.{lowered}
use Rattle.signed_words.proofs.lowered.Goals as goal

pub returns-then-raised-top : goal.returns-then-raised-top
unfolding lowered
returns-then-raised-top c = rw (lt-ltb _ _ c.if-raised-top.true)

pub returns : goal.returns
unfolding lowered
returns c = rw (le-ltb _ _ c.if-raised-top.false)
