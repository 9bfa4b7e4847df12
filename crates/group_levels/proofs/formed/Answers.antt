use mathlib.Core.Path.{◌≡◌, ap, ◌∙◌}
use Prim.Native.Nat.{◌+◌, ◌-◌, ◌*◌, ◌%◌, ◌^◌}
use native.Mathlib.Numerals.{add-one}
use native.Mathlib.Omega.{arith}
use lib.Bits.{bit_or}
use lib.Pow.{pow_pos}
use Rattle.laws.proofs.Shifts.{one_shl}
use Rattle.group_levels.proofs.Byte.{bits_formed}
use Rattle.group_levels.proofs.formed.Goals as goal
use Rattle.group_levels.proofs.formed.Goals.{Start}

size_is : (c : Start) → 1 * 2 ^ c.args.level % 2 ^ 64 ≡ 2 ^ c.args.level
size_is c = one_shl 64 c.args.level (omega arith)

pub overflow_sub-result : goal.overflow_sub-result
overflow_sub-result c = omega (arith, size_is c, pow_pos c.args.level)

pub returns : goal.returns
returns c = let a = c.args in
    let own : 1 * 2 ^ (a.first + 1 * 2 ^ a.level % 2 ^ 64 - 1) % 2 ^ 8 ≡ 2 ^ (a.first + 2 ^ a.level - 1) =
    rw (size_is c) (one_shl 8 (a.first + 2 ^ a.level - 1) (omega (arith, c.requires.fact_3))) in
    ap (bit_or a.merge) own
    ∙ bits_formed 3 a.merge a.first a.level c.requires.fact_1 (omega arith) (omega (arith, c.requires.fact_3)) (rw (add-one a.level) at c.requires.fact_4.0) c.requires.fact_4.1
