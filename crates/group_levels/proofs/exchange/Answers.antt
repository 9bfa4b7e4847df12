use mathlib.Core.Path.{◌≡◌}
use Prim.Native.Nat.{◌*◌, ◌/◌, ◌%◌, ◌^◌, ◌<◌}
use native.Mathlib.Nat.{mod-lt}
use native.Mathlib.Omega.{arith}
use lib.Bits.{bit_xor, xor_lt}
use lib.Pow.{pow_pos, shl_exact}
use Rattle.group_block.specs.Block.{cap}
use Rattle.group_levels.proofs.Exchanging.{exchanged}
use Rattle.group_levels.proofs.exchange.Goals as goal

pub overflow_shl-result : goal.overflow_shl-result
overflow_shl-result c = omega (arith, c.requires.fact_2, pow_pos c.args.level)

pub returns : goal.returns
unfolding cap
returns c = let a = c.args in
    let b = 8 * 2 ^ a.level in
    let old-lt : a.word / 2 ^ a.place % 2 ^ b < 2 ^ b = mod-lt (a.word / 2 ^ a.place) (pow_pos b) in
    let x = bit_xor (a.word / 2 ^ a.place % 2 ^ b) a.value in
    let kept : x * 2 ^ a.place % 2 ^ 64 ≡ x * 2 ^ a.place =
    shl_exact {a = x} b a.place 64 (xor_lt b (a.word / 2 ^ a.place % 2 ^ b) a.value old-lt c.requires.fact_4) (omega (arith, c.requires.fact_2)) in
    rw (c.requires.fact_3, kept) (exchanged a.word a.place b a.value c.requires.fact_4)
