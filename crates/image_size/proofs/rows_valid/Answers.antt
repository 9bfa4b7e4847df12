use native.Mathlib.Nat.{sub-zero, zero-mul}
use mathlib.Core.Path.{sym, ap, ap₂, ◌∙◌}
use mathlib.Core.List.{List}
use Prim.Native.Nat.{ℕ, ◌-◌}
use native.Mathlib.Omega.{arith}
use lib.ListN.{drop}
use Rattle.geometry.specs.Geometry.{stride}
use Rattle.image_format.specs.Write.{all_valid, valid_rows}
use Rattle.geometry.proofs.Widths.{one_row, stride_is}
use Rattle.image_size.proofs.Laws.{valid_rows_step, valid_rows_none}
use Rattle.image_size.proofs.rows_valid.Goals as goal

pub loop-r-init : goal.loop-r-init
loop-r-init c = let a = c.args in
    (omega arith, ap₂ (λ (n k : ℕ). valid_rows n a.w (drop k a.memory.now)) (sub-zero a.d) (zero-mul (stride a.w)))

pub row_at-requires : goal.row_at-requires
row_at-requires c = one_row _ _ _ c.requires c.loop-r-test.true

pub row_valid-requires : goal.row_valid-requires
row_valid-requires c = omega (arith, c.row_at.ensures.result_len, stride_is c.args.w)

pub returns-then-not-row_valid : goal.returns-then-not-row_valid
returns-then-not-row_valid c = let l = c.loop-r in
    let a = c.args in
    let v = sym (ap (λ (x : List ℕ). all_valid (drop a.w x)) c.row_at.ensures.result_value) ∙ sym c.row_valid.ensures ∙ c.if-not-row_valid.true in
    sym (rw v at (valid_rows_step a.memory.now a.d l.r a.w (omega arith))) ∙ l.invariant.1

pub loop-r-preserved : goal.loop-r-preserved
loop-r-preserved c = let l = c.loop-r in
    let a = c.args in
    let v = sym (ap (λ (x : List ℕ). all_valid (drop a.w x)) c.row_at.ensures.result_value) ∙ sym c.row_valid.ensures ∙ c.if-not-row_valid.false in
    (omega arith, sym (rw v at (valid_rows_step a.memory.now a.d l.r a.w (omega arith))) ∙ l.invariant.1)

pub returns : goal.returns
returns c = let l = c.loop-r in
    let a = c.args in
    sym (valid_rows_none (a.d - l.r) a.w _ (omega arith)) ∙ l.invariant.1
