use mathlib.Core.Path.{◌≡◌, ap}
use Prim.Native.Nat.{ℕ, ◌*◌, ◌^◌, ◌≤◌, ◌<◌}
use native.Mathlib.Omega.{arith}
use lib.Bits.{or_shifted}
use native.Mathlib.Nat.{mod-eq_of_lt, mul-le-mul}
use lib.Pow.{pow_mono}
use Rattle.group_layout.proofs.beside.Goals as goal

pub returns : goal.returns
returns c = let a = c.args in
    let p = 2 ^ (2 ^ a.half) in
    let e : 2 ^ c.slots.result ≡ p = ap (λ (k : ℕ). 2 ^ k) c.slots.ensures.value in
    let small : p ≤ 16 = rw (← e) (pow_mono {i = c.slots.result} {j = 4} (omega arith)) in
    let fits : a.right * p < 256 =
    omega (arith, mul-le-mul {n₁ = a.right} {m₁ = p} {n₂ = 15} {m₂ = 16} (omega arith) small) in
    rw (e, mod-eq_of_lt {n = a.right * p} {m = 256} fits) (or_shifted a.right (2 ^ a.half) a.left c.requires.fact_2)
