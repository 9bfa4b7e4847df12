use mathlib.Core.Path.{◌≡◌, sym, ap, ◌∙◌}
use Prim.Native.Nat.{◌*◌, ◌≤◌, ℕ, ◌<◌}
use mathlib.Core.Bool.{false}
use native.Mathlib.Nat.{mul-le-mul}
use Rattle.group_layout.specs.Layout.{layout}
use Rattle.group_layout.specs.Merged.{is_merged}
use Rattle.group_layout.specs.Code.{code as code_of}
use Rattle.group_layout.proofs.Laws.{is_merged_lem, above_slot, layout_apart}
use Rattle.group_layout.proofs.Codes.{merged_last, code_zero, with_bound}
use native.Mathlib.Omega.{arith}
use Rattle.group_layout.proofs.+code.Goals as goal
use Rattle.group_layout.proofs.+code.Goals.{After-layouts-2, Else-is_merged}

-- the block is two halves
is_apart : {t : ℕ} (c : Else-is_merged t) → is_merged (layout c.args.level c.args.merge) ≡ false
is_apart c = sym c.is_merged.ensures ∙ c.if-is_merged.false

above : {t : ℕ} (c : Else-is_merged t) → 0 < c.args.level
above c = above_slot c.args.level c.args.merge (is_apart c)

product : {t : ℕ} (c : After-layouts-2 t) → c.code-left.result * c.layouts-2.result ≤ 25 * 26
product c = mul-le-mul {n₁ = c.code-left.result} {m₁ = c.layouts-2.result} {n₂ = 25} {m₂ = 26} c.code-left.ensures.upper_bound c.layouts-2.ensures.lower_bound.1

pub returns-then-merge-eq0 : goal.returns-then-merge-eq0
returns-then-merge-eq0 t c = let a = c.args in
    let r = with_bound a.level a.merge (omega arith)
    (sym (ap (λ (m : ℕ). code_of (layout a.level m)) c.if-merge-eq0.true ∙ code_zero a.level)) in
    record { value = r.0; upper_bound = r.1 }

pub returns-then-is_merged : goal.returns-then-is_merged
unfolding code_of
returns-then-is_merged t c = let a = c.args in
    let r = with_bound a.level a.merge (omega arith)
    (rw (is_merged_lem _ (sym c.is_merged.ensures ∙ c.if-is_merged.true), c.layouts.ensures.value)
    (omega (arith, merged_last a.level))) in
    record { value = r.0; upper_bound = r.1 }

pub overflow_sub-half : goal.overflow_sub-half
overflow_sub-half t c = omega (arith, above c)

pub code-left-requires : goal.code-left-requires
code-left-requires t c = (omega (arith, above (goal.at.code-left-requires t c).Else-is_merged), omega arith)

pub overflow_mul-result : goal.overflow_mul-result
overflow_mul-result t c = omega (arith, product c)

pub code-requires : goal.code-requires
code-requires t c = (omega (arith, above (goal.at.code-requires t c).Else-is_merged), omega arith)

pub overflow_add-result : goal.overflow_add-result
overflow_add-result t c = omega (arith, product (goal.at.overflow_add-result t c).After-layouts-2)

pub returns : goal.returns
unfolding code_of
returns t c = let a = c.args in
    let r = with_bound a.level a.merge (omega arith)
    (rw (
      c.layouts-2.ensures.value,
      c.code-left.ensures.value,
      c.low.ensures,
      c.code.ensures.value,
      c.high.ensures,
    )
    (sym (layout_apart (λ n L. code_of L) a.level a.merge (is_apart (goal.at.returns t c).Else-is_merged)))) in
    record { value = r.0; upper_bound = r.1 }
