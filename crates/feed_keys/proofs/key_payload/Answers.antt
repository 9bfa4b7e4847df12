use mathlib.Core.Path.{◌≡◌}
use Prim.Native.Nat.{◌-◌}
use native.Mathlib.Nat.{mod-one}
use native.Mathlib.Omega.{arith}
use borrow.Author.Tests.{lt-ltb, le-ltb}
use Rattle.feed_keys.specs.Keys.{key_payload}
use Rattle.feed_keys.proofs.key_payload.Goals as goal

pub returns-then-v-ge16777216 : goal.returns-then-v-ge16777216
unfolding key_payload
returns-then-v-ge16777216 c = rw (le-ltb _ _ c.if-v-ge16777216.true)

pub returns-then-n-eq1 : goal.returns-then-n-eq1
unfolding key_payload
returns-then-n-eq1 c = rw (lt-ltb _ _ c.if-v-ge16777216.false, c.if-n-eq1.true)

pub returns-then-n-eq2 : goal.returns-then-n-eq2
unfolding key_payload
returns-then-n-eq2 c = rw (lt-ltb _ _ c.if-v-ge16777216.false, c.if-n-eq2.true)

pub returns : goal.returns
unfolding key_payload
returns c = let z : 3 - c.args.n ≡ 0 = omega arith in
    rw (lt-ltb _ _ c.if-v-ge16777216.false, z, mod-one)
