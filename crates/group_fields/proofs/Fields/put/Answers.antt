use mathlib.Core.Path.{◌≡◌, ap, ◌∙◌}
use Prim.Native.Nat.{ℕ, ◌+◌, ◌-◌, ◌*◌, ◌%◌, ◌^◌, ◌≤◌}
use native.Mathlib.Nat.{mod-lt}
use native.Mathlib.Omega.{arith}
use lib.Bits.{bit_and}
use lib.Pow.{pow_pos, shl_exact}
use Rattle.laws.proofs.Shifts.{one_shl}
use Rattle.group_fields.proofs.Masks.{masked}
use Rattle.group_fields.proofs.Fields.put.Goals as goal

-- so many bits of a value, at a place
placed : (value bits place : ℕ) → bits ≤ 24 → place + bits ≤ 64 → bit_and value (1 * 2 ^ bits % 2 ^ 64 - 1) * 2 ^ place % 2 ^ 64 ≡ value % 2 ^ bits * 2 ^ place
placed value bits place h k =
    ap (λ (v : ℕ). v * 2 ^ place % 2 ^ 64) (masked value bits h).0
    ∙ shl_exact {a = value % 2 ^ bits} bits place 64 (mod-lt value (pow_pos bits)) (omega arith)

pub overflow_sub-result : goal.overflow_sub-result
overflow_sub-result c = rw (one_shl 64 c.args.bits (omega arith)) (pow_pos c.args.bits)

pub overflow_add-result : goal.overflow_add-result
overflow_add-result c = let a = c.args in omega (arith, placed a.value a.bits a.place (omega arith) (omega arith))

pub returns : goal.returns
returns c = let a = c.args in
    ap (λ (v : ℕ). record { word = a.self.word + v }) (placed a.value a.bits a.place (omega arith) (omega arith))
