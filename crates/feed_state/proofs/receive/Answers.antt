use Rattle.feed_state.proofs.Receiving.{received_failed, received_more}
use Rattle.feed_state.proofs.receive.Goals as goal

pub returns-then-o : goal.returns-then-o
returns-then-o c = let a = c.args in
    let o = c.make_room-o in
    received_failed a.n a.s a.input.now a.output.now c.is_short-reads.result o.result c.requires.within_1 o.ensures c.if-o.true

pub returns : goal.returns
returns c = let a = c.args in
    let o = c.make_room-o in
    let f = c.refill in
    received_more a.n a.s a.input.now a.output.now c.is_short-reads.result o.result f.result f.new.buffer c.requires.within_1
    c.is_short-reads.ensures f.ensures.refilled f.ensures.held o.ensures c.if-o.false
