use mathlib.Core.Path.{refl, sym, ap, ◌∙◌}
use mathlib.Core.List.{List}
use Prim.Native.Nat.{ℕ, ◌+◌, ◌-◌, ◌*◌, ◌/◌}
use native.Mathlib.Omega.{arith}
use lib.ListN.{length}
use lib.Seq.{sets}
use native.Mathlib.Nat.{sub-zero}
use Rattle.image_format.specs.Image.{four_words, row_words}
use Rattle.image_size.proofs.Laws.{four_length, row_step, row_length_step, row_none}
use Rattle.image_counters.proofs.Laws.{put_turn}
use Rattle.image_writer.proofs.put_row.Goals as goal

pub loop-i-init : goal.loop-i-init
loop-i-init c = let a = c.args in
    let e = ap (λ (x : ℕ). row_words x 0 a.w a.row.now) (sub-zero (a.w / 32)) in
    (omega arith, refl, ap (λ (x : List ℕ). a.p + length x) e, refl, ap (sets a.words.now a.p) e)

pub put_four-at-requires : goal.put_four-at-requires
put_four-at-requires c = let l = c.loop-i in
    let a = c.args in
    let z = row_length_step (a.w / 32) l.i a.w a.row.now (omega arith) in record { fact_1 = omega arith; fact_2 = omega arith; fact_3 = omega (arith, z, four_length a.w a.row.now (4 * l.i)); fact_4 = c.requires.fact_4 }

pub loop-i-preserved : goal.loop-i-preserved
loop-i-preserved c = let l = c.loop-i in
    let a = c.args in
    let s = c.put_four-at in (
      omega arith,
      l.invariant.1,
      omega (arith, row_length_step (a.w / 32) l.i a.w a.row.now (omega arith), four_length a.w a.row.now (4 * l.i), s.ensures.value),
      omega arith,
      put_turn l.words _ l.at s.result (four_words a.w a.row.now (4 * l.i)) _ s.ensures.words_after s.ensures.value
          ∙ ap (sets l.words l.at) (sym (row_step (a.w / 32) l.i a.w a.row.now (omega arith))) ∙ l.invariant.4,
    )

pub returns : goal.returns
returns c = let l = c.loop-i in
    let a = c.args in
    let e = row_none (a.w / 32 - l.i) (4 * l.i) a.w a.row.now (omega arith) in record { value = omega (arith, ap length e); words_after = sym (ap (sets l.words l.at) e) ∙ l.invariant.4 }
