use mathlib.Core.Path.{◌≡◌, sym, ap, ◌∙◌}
use Prim.Native.Nat.{◌-◌, ◌*◌, ◌/◌, ◌%◌, ℕ, ◌<◌}
use native.Mathlib.Nat.{mul-le-mul}
use Rattle.group_layout.specs.Layout.{marks}
use Rattle.group_layout.specs.Code.{layouts, uncode}
use Rattle.group_layout.proofs.Laws.{marks_in}
use Rattle.group_layout.proofs.Codes.{uncode_zero, code_above_slot, uncode_merged, uncode_apart, halves_lt}
use native.Mathlib.Omega.{arith}
use Rattle.group_layout.proofs.+unpack.Goals as goal
use Rattle.group_layout.proofs.+unpack.Goals.{Else-code-eq0, Else-code-n}

-- a code above 0 is of a block above a slot
above : {t : ℕ} (c : Else-code-eq0 t) → 0 < c.args.level
above c = code_above_slot c.args.level c.args.code c.requires.1 c.if-code-eq0.false

-- the code of a block that is not merged, and its parts
not_merged : {t : ℕ} (c : Else-code-n t)
    → c.args.code ≡ layouts (c.args.level - 1) * layouts (c.args.level - 1) → ⊥
not_merged c e = c.if-code-n.false (e ∙ ap (λ (n : ℕ). n * n) (sym c.layouts-n.ensures.value))

parts : {t : ℕ} (c : Else-code-n t)
    → (c.args.code / c.layouts-n.result < layouts (c.args.level - 1))
    × (c.args.code % c.layouts-n.result < layouts (c.args.level - 1))
parts {t = t} c =
    let a = c.args in
    rw c.layouts-n.ensures.value (halves_lt a.level a.code (above (goal.at.Else-code-n t c).Else-code-eq0) c.requires.1 (not_merged c))

pub returns-then-code-eq0 : goal.returns-then-code-eq0
returns-then-code-eq0 t c = let a = c.args in sym (ap (λ (x : ℕ). marks (uncode a.level x)) c.if-code-eq0.true ∙ uncode_zero a.level)

pub overflow_sub-half : goal.overflow_sub-half
overflow_sub-half t c = omega (arith, above c)

pub overflow_mul-n : goal.overflow_mul-n
overflow_mul-n t c = let n = c.layouts-n in omega (arith, mul-le-mul {n₁ = n.result} {m₁ = n.result} {n₂ = 26} {m₂ = 26} n.ensures.lower_bound.1 n.ensures.lower_bound.1)

pub returns-then-code-n : goal.returns-then-code-n
unfolding marks
returns-then-code-n t c = let a = c.args in
    rw (uncode_merged a.level a.code (above (goal.at.returns-then-code-n t c).Else-code-eq0) (c.if-code-n.true ∙ ap (λ (n : ℕ). n * n) c.layouts-n.ensures.value))
    c.ones.ensures

pub unpack-left-requires : goal.unpack-left-requires
unpack-left-requires t c = (omega (arith, above (goal.at.unpack-left-requires t c).Else-code-eq0), (omega arith, (parts c).0))

pub unpack-requires : goal.unpack-requires
unpack-requires t c = (omega (arith, above (goal.at.unpack-requires t c).Else-code-eq0), (omega arith, (parts (goal.at.unpack-requires t c).Else-code-n).1))

pub beside-requires : goal.beside-requires
beside-requires t c = let left = marks_in (uncode (c.args.level - 1) (c.args.code / c.layouts-n.result)) in
    let right = marks_in (uncode (c.args.level - 1) (c.args.code % c.layouts-n.result)) in record { fact_1 = omega arith; fact_2 = omega (arith, left, right, c.unpack-left.ensures, c.unpack.ensures); fact_3 = omega (arith, left, right, c.unpack-left.ensures, c.unpack.ensures) }

pub returns : goal.returns
returns t c = let a = c.args in
    c.beside.ensures
    ∙ rw (c.unpack.ensures, c.unpack-left.ensures, c.layouts-n.ensures.value)
    (sym (uncode_apart a.level a.code (above (goal.at.returns t c).Else-code-eq0) (not_merged (goal.at.returns t c).Else-code-n)))
