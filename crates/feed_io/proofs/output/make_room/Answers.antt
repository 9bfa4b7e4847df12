use native.Mathlib.Omega.{arith}
use Rattle.feed_io.proofs.Buffers.{cleared_all}
use Rattle.feed_io.proofs.output.make_room.Goals as goal

pub returns-then-out-at-lt-LINE : goal.returns-then-out-at-lt-LINE
returns-then-out-at-lt-LINE c = cleared_all c.args.reads c.args.out.now c.args.at c.flush.result c.requires.fact_1 c.requires.fact_2 (λ e. omega arith) c.flush.ensures
