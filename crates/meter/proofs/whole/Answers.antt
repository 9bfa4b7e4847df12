use mathlib.Core.Path.{◌≡◌}
use Prim.Native.Nat.{◌-◌}
use native.Mathlib.Omega.{arith}
use lib.ListN.{length}
use lib.Seq.{take-length}
use Rattle.meter.proofs.whole.Goals as goal

pub returns : goal.returns
returns c = let xs = c.args.bytes.now in
    let e : length xs - 0 ≡ length xs = omega arith in
    rw e (take-length xs)
