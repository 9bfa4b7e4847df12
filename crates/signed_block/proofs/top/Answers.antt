use native.Mathlib.Omega.{arith}
use Rattle.signed_block.proofs.Counters.{top_twice, top_pos}
use Rattle.signed_block.proofs.top.Goals as goal

pub returns : goal.returns
returns c = let n = c.args.level in omega (arith, c.most.ensures, top_twice n, top_pos n)
