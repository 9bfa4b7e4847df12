use mathlib.Core.Path.{refl, sym, ap, ◌∙◌}
use mathlib.Core.List.{◌++◌}
use Prim.Native.Nat.{ℕ, ◌+◌, ◌-◌, ◌*◌, ◌/◌, ◌≤◌}
use native.Mathlib.Omega.{arith}
use lib.ListN.{length, take, drop}
use Rattle.geometry.specs.Geometry.{stride}
use native.Mathlib.Nat.{sub-zero, zero-mul}
use Rattle.image_format.specs.Read.{read_rows}
use Rattle.geometry.proofs.Widths.{row_in}
use Rattle.image_reader.proofs.Laws.{rows_from, read_rows_turn, read_rows_end}
use Rattle.image_reader.proofs.read_rows.Goals as goal
use Rattle.image_reader.proofs.read_rows.Goals.{In-loop-r}

pub loop-r-init : goal.loop-r-init
unfolding stride
loop-r-init c = let a = c.args in (
  omega arith,
  refl,
  omega arith,
  refl,
  ap (λ (k : ℕ). take k a.memory.now ++ read_rows (a.d - 0) a.w (drop k a.memory.now) a.words.now 1) (zero-mul (stride a.w))
      ∙ ap (λ (n : ℕ). read_rows n a.w a.memory.now a.words.now 1) (sub-zero a.d),
)

row_fits : (c : In-loop-r) → let a = c.args in c.loop-r.r * (a.w * 9 / 8) + a.w * 9 / 8 ≤ length a.memory.now
unfolding stride
row_fits c = let a = c.args in
    row_in c.loop-r.r a.d (a.w * 9 / 8) c.loop-r-test.true c.requires.fact_1

pub overflow_mul-a : goal.overflow_mul-a
overflow_mul-a c = omega (arith, row_fits c)

pub overflow_add-e : goal.overflow_add-e
overflow_add-e c = omega (arith, row_fits c)

pub slice_bounds-read_row-end : goal.slice_bounds-read_row-end
slice_bounds-read_row-end c = omega (arith, row_fits c)

pub read_row-at-requires : goal.read_row-at-requires
read_row-at-requires c = let fit = row_fits (goal.at.read_row-at-requires c).In-loop-r in record { fact_1 = omega (arith, fit); fact_2 = omega arith; fact_3 = omega arith; fact_4 = c.requires.fact_4 }

pub loop-r-preserved : goal.loop-r-preserved
unfolding stride
loop-r-preserved c = let l = c.loop-r in
    let a = c.args in
    let s = c.read_row-at in
    let fit = row_fits (goal.at.loop-r-preserved c).In-loop-r in (
      omega arith,
      l.invariant.1,
      omega arith,
      omega arith,
      ap (rows_from a.d (l.r + 1) a.w _ a.words.now) s.ensures.value
          ∙ read_rows_turn a.d l.r a.w l.memory s.new.row a.words.now l.at _ l.invariant.1 (omega arith) (omega (arith, fit)) (omega (arith, fit)) s.ensures.row_after ∙ l.invariant.4,
    )

pub returns : goal.returns
returns c = let l = c.loop-r in
    let a = c.args in
    sym (read_rows_end a.d l.r a.w l.memory a.words.now l.at (omega arith)) ∙ l.invariant.4
