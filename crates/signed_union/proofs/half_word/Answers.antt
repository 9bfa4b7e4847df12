use mathlib.Core.Path.{◌≡◌, ap, ◌∙◌}
use Prim.Native.Nat.{ℕ, suc, ◌+◌, ◌*◌, ◌/◌, ◌%◌, ◌^◌}
use native.Mathlib.Nat.{mul-le-mul}
use native.Mathlib.Numerals.{add-one}
use native.Mathlib.Omega.{arith}
use Rattle.group_block.specs.Block.{cap}
use Rattle.signed_union.proofs.Slots.{half_is}
use Rattle.signed_union.proofs.half_word.Goals as goal

pub overflow_mul-h : goal.overflow_mul-h
overflow_mul-h c = let a = c.args in omega (arith, mul-le-mul {n₁ = a.h} {m₁ = 8 * c.slots.result} {n₂ = 1} {m₂ = 32} (omega arith) (omega arith))

pub overflow_shr-word : goal.overflow_shr-word
overflow_shr-word c = let a = c.args in omega (arith, mul-le-mul {n₁ = a.h} {m₁ = 8 * c.slots.result} {n₂ = 1} {m₂ = 32} (omega arith) (omega arith))

pub returns : goal.returns
unfolding cap
returns c = let a = c.args in
    let k = 8 * 2 ^ a.half in
    let e : k + k ≡ 8 * 2 ^ suc a.half = omega arith in
    c.low_word.ensures
    ∙ ap (λ (x : ℕ). a.word / 2 ^ (a.h * (8 * x)) % 2 ^ k) c.slots.ensures.value
    ∙ half_is k a.h a.word c.requires.fact_2 (rw e (rw (add-one a.half) at c.requires.fact_3))
