use native.Mathlib.Omega.{arith}
use Rattle.hash.proofs.Hashing.{run_turn, run_end}
use Rattle.hash.proofs.Hash.run.Goals as goal

pub loop-byte-preserved : goal.loop-byte-preserved
loop-byte-preserved c = let l = c.loop-byte in
    run_turn c.args.bytes.now l.byte-index l.h.state _ l.invariant _ (omega arith) c.step-h.ensures

pub returns : goal.returns
returns c = let l = c.loop-byte in
    run_end c.args.bytes.now l.byte-index l.h.state _ l.invariant (omega arith)
