use mathlib.Core.Path.{sym}
use native.Mathlib.Omega.{arith}
use lib.ListN.{get_or-eq_default}
use Rattle.watch_places.proofs.or_zero.Goals as goal

pub returns-else-i-bytes : goal.returns-else-i-bytes
returns-else-i-bytes c = let a = c.args in
    sym (get_or-eq_default a.bytes.now 0 {n = a.i} (omega arith))
