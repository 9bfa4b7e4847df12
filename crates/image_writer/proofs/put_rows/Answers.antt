use mathlib.Core.Path.{◌≡◌, refl, sym, ap, ap₂, ◌∙◌}
use mathlib.Core.List.{List}
use Prim.Native.Nat.{ℕ, ◌+◌, ◌-◌, ◌*◌, ◌/◌}
use native.Mathlib.Omega.{arith}
use lib.ListN.{length, take, drop}
use lib.Seq.{sets}
use Rattle.geometry.specs.Geometry.{stride}
use native.Mathlib.Nat.{sub-zero, zero-mul}
use Rattle.image_format.specs.Image.{row_words, rows_words}
use Rattle.geometry.proofs.Widths.{one_row}
use Rattle.geometry.proofs.Widths.{stride_is}
use Rattle.geometry.proofs.Widths.{wide}
use Rattle.image_size.proofs.Laws.{rows_step, rows_length_step, rows_none}
use Rattle.image_counters.proofs.Laws.{put_turn}
use Rattle.image_writer.proofs.put_rows.Goals as goal

pub loop-r-init : goal.loop-r-init
loop-r-init c = let a = c.args in
    let e = ap₂ (λ (n k : ℕ). rows_words n a.w (drop k a.memory.now)) (sub-zero a.d) (zero-mul (stride a.w)) in
    (omega arith, ap (λ (x : List ℕ). a.p + length x) e, refl, ap (sets a.words.now a.p) e)

pub row_at-requires : goal.row_at-requires
row_at-requires c = one_row _ _ _ c.requires.fact_1 c.loop-r-test.true

pub put_row-at-requires : goal.put_row-at-requires
put_row-at-requires c = let l = c.loop-r in record { fact_1 = omega (arith, c.row_at.ensures.result_len, stride_is c.args.w); fact_2 = (wide _ c.requires.fact_1.0).high; fact_3 = rw c.row_at.ensures.result_value (omega (arith, rows_length_step c.args.memory.now c.args.d l.r c.args.w (omega arith))); fact_4 = c.requires.fact_3 }

pub loop-r-preserved : goal.loop-r-preserved
loop-r-preserved c = let l = c.loop-r in
    let a = c.args in
    let s = c.put_row-at in
    let row = row_words (a.w / 32) 0 a.w (take (stride a.w) (drop (l.r * stride a.w) a.memory.now)) in
    let e = ap (row_words (a.w / 32) 0 a.w) c.row_at.ensures.result_value in
    let z : s.result ≡ l.at + length row = s.ensures.value ∙ ap (λ (x : List ℕ). l.at + length x) e in (
      omega arith,
      omega (arith, rows_length_step a.memory.now a.d l.r a.w (omega arith), z),
      omega arith,
      put_turn l.words _ l.at s.result row _ (s.ensures.words_after ∙ ap (sets l.words l.at) e) z
          ∙ ap (sets l.words l.at) (sym (rows_step a.memory.now a.d l.r a.w (omega arith))) ∙ l.invariant.3,
    )

pub returns : goal.returns
returns c = let l = c.loop-r in
    let a = c.args in
    let e = rows_none (a.d - l.r) a.w (drop (l.r * stride a.w) a.memory.now) (omega arith) in record { value = omega (arith, ap length e); words_after = sym (ap (sets l.words l.at) e) ∙ l.invariant.3 }
