use mathlib.Core.Path.{sym, ap, ◌∙◌}
use Prim.Native.Nat.{◌+◌, ◌-◌, ◌*◌, ◌≤◌, ℕ}
use native.Mathlib.Nat.{mul-le-mul}
use Rattle.group_layout.specs.Code.{layouts}
use Rattle.group_layout.proofs.Codes.{layouts_more, layouts_below_three}
use native.Mathlib.Omega.{arith}
use Rattle.group_layout.proofs.+layouts.Goals as goal
use Rattle.group_layout.proofs.+layouts.Goals.{After-layouts-n}

-- what is asked for below level 3 is at most 5
square : {t : ℕ} (c : After-layouts-n t) → c.layouts-n.result * c.layouts-n.result ≤ 25
square c =
    let n = c.layouts-n.result in
    let few : n ≤ 5 = rw c.layouts-n.ensures.value (layouts_below_three (c.args.level - 1) (omega arith)) in
    mul-le-mul {n₁ = n} {m₁ = n} {n₂ = 5} {m₂ = 5} few few

pub returns-then-level-eq0 : goal.returns-then-level-eq0
unfolding layouts
returns-then-level-eq0 t c = record { value = rw c.if-level-eq0.true; lower_bound = (omega arith, omega arith) }

pub layouts-n-requires : goal.layouts-n-requires
layouts-n-requires t c = (omega arith, omega arith)

pub overflow_mul-result : goal.overflow_mul-result
overflow_mul-result t c = omega (arith, square c)

pub overflow_add-result : goal.overflow_add-result
overflow_add-result t c = omega (arith, square c)

pub returns : goal.returns
returns t c = record { value = ap (λ (n : ℕ). n * n + 1) c.layouts-n.ensures.value ∙ sym (layouts_more c.args.level (omega arith)); lower_bound = (omega arith, omega (arith, square c)) }
