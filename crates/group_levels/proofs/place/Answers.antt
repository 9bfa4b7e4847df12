use mathlib.Core.Path.{◌≡◌, ap}
use Prim.Native.Nat.{ℕ, ◌*◌, ◌/◌, ◌%◌, ◌^◌}
use native.Mathlib.Nat.{mod-eq_of_lt, div-mul-le_self}
use native.Mathlib.Omega.{arith}
use Rattle.group_levels.proofs.place.Goals as goal
use Rattle.group_levels.proofs.place.Goals.{Start}

first_is : (c : Start) → c.args.slot / 2 ^ c.args.level * 2 ^ c.args.level % 2 ^ 64 ≡ c.args.slot / 2 ^ c.args.level * 2 ^ c.args.level
first_is c = mod-eq_of_lt (omega (arith, div-mul-le_self c.args.slot (2 ^ c.args.level)))

pub overflow_mul-result : goal.overflow_mul-result
overflow_mul-result c = omega (arith, first_is c, div-mul-le_self c.args.slot (2 ^ c.args.level))

pub returns : goal.returns
returns c = record { value = ap (λ (x : ℕ). 8 * x) (first_is c); upper_bound = omega (arith, first_is c, div-mul-le_self c.args.slot (2 ^ c.args.level)) }
