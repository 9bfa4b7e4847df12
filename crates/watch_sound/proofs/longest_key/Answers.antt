use native.Mathlib.Omega.{arith}
use borrow.Author.Tests.{lt-ltb, le-ltb}
use Rattle.watch_sound.proofs.longest_key.Goals as goal

pub returns-then-k-n-lt128 : goal.returns-then-k-n-lt128
returns-then-k-n-lt128 c = let a = c.args in
    rw (lt-ltb a.k a.n (omega arith))

pub returns-else-k-n-lt128 : goal.returns-else-k-n-lt128
returns-else-k-n-lt128 c = let a = c.args in
    rw (le-ltb a.k a.n (omega arith))
