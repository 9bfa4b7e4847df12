use Prim.Native.Nat.{◌/◌, ◌^◌}
use native.Mathlib.Omega.{arith}
use lib.Pow.{pow_pos}
use Rattle.laws.proofs.Shifts.{one_shl}
use Rattle.group_fields.proofs.Masks.{masked}
use Rattle.group_fields.proofs.Fields.bits_at.Goals as goal

pub overflow_sub-result : goal.overflow_sub-result
overflow_sub-result c = let a = c.args in omega (arith, one_shl 64 a.bits (omega arith), pow_pos a.bits)

pub overflow_cast-result-5 : goal.overflow_cast-result-5
overflow_cast-result-5 c = let a = c.args in omega (arith, (masked (a.self.word / 2 ^ a.place) a.bits c.requires.fact_2).1)

pub returns : goal.returns
returns c = let a = c.args in
    let r = masked (a.self.word / 2 ^ a.place) a.bits c.requires.fact_2 in
    record { value = r.0; upper_bound = r.1 }
