use mathlib.Core.Path.{refl, ap, ◌∙◌}
use Prim.Native.Nat.{ℕ, ◌-◌, ◌*◌, ◌/◌}
use native.Mathlib.Omega.{arith}
use lib.ListN.{length}
use native.Mathlib.Nat.{zero-add, sub-zero}
use Rattle.image_format.specs.Image.{row_words}
use Rattle.image_size.proofs.Laws.{row_length_step, row_none}
use Rattle.image_size.proofs.row_size.Goals as goal

pub loop-i-init : goal.loop-i-init
loop-i-init c = let a = c.args in
    (omega arith, refl, omega arith, zero-add _ ∙ ap (λ (x : ℕ). length (row_words x 0 a.w a.row.now)) (sub-zero (a.w / 32)))

pub loop-i-preserved : goal.loop-i-preserved
loop-i-preserved c = let l = c.loop-i in
    let a = c.args in
    (omega arith, l.invariant.1, omega arith, omega (arith, row_length_step (a.w / 32) l.i a.w a.row.now (omega arith), c.groups_size.ensures.value))

pub returns : goal.returns
returns c = let l = c.loop-i in
    let a = c.args in record { value = omega (arith, ap length (row_none (a.w / 32 - l.i) (4 * l.i) a.w a.row.now (omega arith))); upper_bound = omega arith }
