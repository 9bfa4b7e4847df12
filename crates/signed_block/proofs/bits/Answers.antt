use mathlib.Core.Path.{◌≡◌, refl, sym, ap, ◌∙◌}
use mathlib.Core.Bool.{Bool, true, false, cond}
use Prim.Native.Nat.{ℕ, ◌+◌, ◌≤◌}
use native.Mathlib.Nat.{zero-add}
use native.Mathlib.Omega.{arith}
use Rattle.signed_number.specs.declared.Signed.{Signed}
use Rattle.signed_number.specs.Number.{integer_of}
use Rattle.signed_block.specs.Signed.{top, sign_bits}
use Rattle.signed_block.specs.Passed.{Canonical}
use Rattle.signed_block.proofs.Counters.{top_most, bits_minus, bits_plus}
use Rattle.signed_block.proofs.bits.Goals as goal

-- the sign bit and the magnitude
parts : (n : ℕ) (s : Signed) → Canonical s → cond s.minus (top n) 0 + s.magnitude ≡ sign_bits n (integer_of s)
parts n s c = go s.minus refl
  where
    go : (b : Bool) → s.minus ≡ b → cond b (top n) 0 + s.magnitude ≡ sign_bits n (integer_of s)
    go true e = sym (bits_minus n s c e)
    go false e = zero-add s.magnitude ∙ sym (bits_plus n s e)

sign_most : (b : Bool) (n : ℕ) → n ≤ 3 → cond b (top n) 0 ≤ top n
sign_most true n h = omega arith
sign_most false n h = omega arith

pub overflow_add-result : goal.overflow_add-result
overflow_add-result c = omega (arith, c.sign_bit.ensures, sign_most c.args.value.minus c.args.level c.requires.fact_1, top_most c.args.level c.requires.fact_1)

pub returns : goal.returns
returns c = ap (λ (x : ℕ). x + c.args.value.magnitude) c.sign_bit.ensures ∙ parts c.args.level c.args.value c.requires.fact_3
