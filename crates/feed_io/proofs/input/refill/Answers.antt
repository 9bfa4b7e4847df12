use mathlib.Core.Path.{◌≡◌}
use mathlib.Core.Bool.{true}
use native.Mathlib.Omega.{arith}
use borrow.Author.Tests.{not-false}
use Rattle.feed_io.proofs.Buffers.{refilled}
use Rattle.feed_io.proofs.input.refill.Goals as goal

pub returns-clause-refilled : goal.returns-clause-refilled
returns-clause-refilled c = let f = c.fill in
    let m = c.copy_within in
    let o : c.args.i.more ≡ true = not-false _ c.if-not-i.false in
    (refilled c.args.n c.args.i c.args.buffer.now m.new.self f.result f.new.buffer c.requires.fact_1 (omega arith) o m.ensures.after f.ensures).0
