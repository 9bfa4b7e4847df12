use Prim.Native.Nat.{◌/◌}
use native.Mathlib.Omega.{arith}
use native.Mathlib.Nat.{mul-le-mul_right}
use Rattle.image_layouts.proofs.table_size.Goals as goal

pub overflow_mul-d : goal.overflow_mul-d
overflow_mul-d c = omega (arith, mul-le-mul_right {m = c.args.d} {n = 8} (c.args.w / 32) (omega arith))
