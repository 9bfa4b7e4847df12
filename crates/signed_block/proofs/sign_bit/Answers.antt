use mathlib.Core.Path.{◌≡◌}
use mathlib.Core.Bool.{Bool, true, false, cond}
use Prim.Native.Nat.{ℕ, ◌-◌, ◌*◌, ◌%◌, ◌^◌, ◌<◌}
use native.Mathlib.Nat.{one-mul, zero-mul}
use native.Mathlib.Omega.{arith}
use lib.Pow.{shl_exact}
use mir.Val.{bool_byte}
use Rattle.signed_block.specs.Signed.{top}
use Rattle.signed_block.proofs.Widths.{width}
use Rattle.signed_block.proofs.sign_bit.Goals as goal

-- a bit at a place
shifted : (minus : Bool) (k : ℕ) → k < 64 → bool_byte minus * 2 ^ k % 2 ^ 64 ≡ cond minus (2 ^ k) 0
shifted true k h = rw (shl_exact {a = 1} 1 k 64 (omega arith) (omega arith), one-mul)
shifted false k h = rw (zero-mul (2 ^ k))

pub overflow_sub-result : goal.overflow_sub-result
overflow_sub-result c = omega (arith, width c.args.level c.requires)

pub overflow_shl-result-2 : goal.overflow_shl-result-2
overflow_shl-result-2 c = omega (arith, width c.args.level c.requires)

pub returns : goal.returns
unfolding top
returns c = let n = c.args.level in
    let w = width n c.requires in
    rw w.0 (shifted c.args.minus (8 * 2 ^ n - 1) (omega arith))
