use mathlib.Core.Path.{◌≡◌, ap, ap₂, ◌∙◌}
use Prim.Native.Nat.{ℕ, ◌+◌}
use native.Mathlib.Omega.{arith}
use native.Mathlib.Numerals.{add-one}
use lib.ListN.{length, set, length-set}
use lib.Seq.{sets, length-sets}
use Rattle.image_format.specs.Image.{word, layout_kind, layout_at, groups_words, four_words}
use Rattle.image_size.proofs.Laws.{four_length}
use Rattle.image_writer.proofs.put_mixed.Goals as goal

pub bounds-words-p : goal.bounds-words-p
bounds-words-p c = let a = c.args in omega (arith, four_length a.w a.row.now a.g)

pub overflow_add-p : goal.overflow_add-p
overflow_add-p c = let a = c.args in omega (arith, four_length a.w a.row.now a.g)

pub put_groups-requires : goal.put_groups-requires
put_groups-requires c = let a = c.args in record { fact_1 = omega arith; fact_2 = omega arith; fact_3 = rw (length-set a.words.now a.p c.word.result) (omega (arith, four_length a.w a.row.now a.g)); fact_4 = c.requires.fact_4 }

pub shape_of-words : goal.shape_of-words
shape_of-words c = let a = c.args in
    let s = c.put_groups in
    ap length s.ensures.words_after ∙ length-sets (set a.words.now a.p c.word.result) (a.p + 1) (groups_words 4 a.g a.w a.row.now) ∙ length-set a.words.now a.p c.word.result

pub returns : goal.returns
unfolding four_words
returns c = let a = c.args in
    let s = c.put_groups in
    let x : c.word.result ≡ word layout_kind (layout_at a.w a.row.now a.g) = c.word.ensures ∙ ap (word layout_kind) c.layout_at.ensures.value in record { value = omega (arith, four_length a.w a.row.now a.g, s.ensures.value); words_after = s.ensures.words_after ∙ ap₂ (λ (v i : ℕ). sets (set a.words.now a.p v) i (groups_words 4 a.g a.w a.row.now)) x (add-one a.p) }
