use mathlib.Core.Path.{◌≡◌, ap, ap₂, ◌∙◌}
use mathlib.Core.List.{List}
use Prim.Native.Nat.{ℕ, ◌-◌, ◌*◌, ◌/◌}
use native.Mathlib.Omega.{arith}
use lib.ListN.{length, take, drop}
use Rattle.geometry.specs.Geometry.{stride}
use native.Mathlib.Nat.{zero-add, sub-zero, zero-mul}
use Rattle.image_format.specs.Image.{row_words, rows_words}
use Rattle.geometry.proofs.Widths.{one_row}
use Rattle.geometry.proofs.Widths.{stride_is}
use Rattle.geometry.proofs.Widths.{wide}
use Rattle.image_size.proofs.Laws.{rows_length_step, rows_none}
use Rattle.image_size.proofs.rows_size.Goals as goal

pub loop-r-init : goal.loop-r-init
loop-r-init c = let a = c.args in
    (omega arith, omega arith, zero-add _ ∙ ap₂ (λ (n k : ℕ). length (rows_words n a.w (drop k a.memory.now))) (sub-zero a.d) (zero-mul (stride a.w)))

pub row_at-requires : goal.row_at-requires
row_at-requires c = one_row _ _ _ c.requires.fact_1 c.loop-r-test.true

pub row_size-n-requires : goal.row_size-n-requires
row_size-n-requires c = let p = c.requires in record { fact_1 = omega (arith, c.row_at.ensures.result_len, stride_is c.args.w); fact_2 = (wide _ p.fact_1.0).high; fact_3 = p.fact_2 }

pub loop-r-preserved : goal.loop-r-preserved
loop-r-preserved c = let l = c.loop-r in
    let a = c.args in
    let z : c.row_size-n.result ≡ length (row_words (a.w / 32) 0 a.w (take (stride a.w) (drop (l.r * stride a.w) a.memory.now)))
    = c.row_size-n.ensures.value ∙ ap (λ (x : List ℕ). length (row_words (a.w / 32) 0 a.w x)) c.row_at.ensures.result_value in
    (omega arith, omega arith, omega (arith, rows_length_step a.memory.now a.d l.r a.w (omega arith), z))

pub returns : goal.returns
returns c = let l = c.loop-r in
    let a = c.args in record { value = omega (arith, ap length (rows_none (a.d - l.r) a.w (drop (l.r * stride a.w) a.memory.now) (omega arith))); upper_bound = omega arith }
