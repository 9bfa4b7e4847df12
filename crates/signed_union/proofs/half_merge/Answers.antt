use mathlib.Core.Path.{◌≡◌, ap, ◌∙◌}
use Prim.Native.Nat.{ℕ, suc, ◌+◌, ◌*◌, ◌/◌, ◌%◌, ◌^◌}
use native.Mathlib.Nat.{mul-le-mul}
use native.Mathlib.Numerals.{add-one}
use native.Mathlib.Omega.{arith}
use Rattle.signed_union.proofs.Slots.{half_is}
use Rattle.signed_union.proofs.half_merge.Goals as goal

pub overflow_mul-h : goal.overflow_mul-h
overflow_mul-h c = let a = c.args in omega (arith, mul-le-mul {n₁ = a.h} {m₁ = c.slots.result} {n₂ = 1} {m₂ = 4} (omega arith) (omega arith))

pub overflow_cast-h : goal.overflow_cast-h
overflow_cast-h c = let a = c.args in omega (arith, mul-le-mul {n₁ = a.h} {m₁ = c.slots.result} {n₂ = 1} {m₂ = 4} (omega arith) (omega arith))

pub overflow_shr-merge : goal.overflow_shr-merge
overflow_shr-merge c = let a = c.args in omega (arith, mul-le-mul {n₁ = a.h} {m₁ = c.slots.result} {n₂ = 1} {m₂ = 4} (omega arith) (omega arith))

pub returns : goal.returns
returns c = let a = c.args in
    let k = 2 ^ a.half in
    let e : k + k ≡ 2 ^ suc a.half = omega arith in
    c.low.ensures
    ∙ ap (λ (x : ℕ). a.merge / 2 ^ (a.h * x) % 2 ^ k) c.slots.ensures.value
    ∙ half_is k a.h a.merge c.requires.fact_2 (rw e (rw (add-one a.half) at c.requires.fact_3))
