use Prim.Native.Nat.{◌-◌, ◌^◌}
use native.Mathlib.Omega.{arith}
use Rattle.laws.proofs.Shifts.{one_shl}
use lib.Pow.{pow_mono, pow_pos}
use Rattle.group_layout.specs.Layout.{ones}
use Rattle.group_layout.proofs.ones.Goals as goal

pub overflow_sub-places : goal.overflow_sub-places
overflow_sub-places c = rw (one_shl 8 c.args.level (omega arith)) (pow_pos c.args.level)

pub overflow_shl-result : goal.overflow_shl-result
overflow_shl-result c = let n = c.args.level in
    rw (one_shl 8 n (omega arith)) (omega (arith, pow_mono {i = n} {j = 3} c.requires, pow_pos n))

pub overflow_sub-result : goal.overflow_sub-result
overflow_sub-result c = let n = c.args.level in
    rw (one_shl 8 n (omega arith), one_shl 8 (2 ^ n - 1) (omega (arith, pow_mono {i = n} {j = 3} c.requires, pow_pos n))) (pow_pos (2 ^ n - 1))

pub returns : goal.returns
unfolding ones
returns c = let n = c.args.level in
    rw (one_shl 8 n (omega arith), one_shl 8 (2 ^ n - 1) (omega (arith, pow_mono {i = n} {j = 3} c.requires, pow_pos n)))
