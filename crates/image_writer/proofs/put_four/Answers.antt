use mathlib.Core.Path.{sym, ap, ◌∙◌}
use native.Mathlib.Omega.{arith}
use lib.Seq.{sets}
use Rattle.laws.proofs.Lists.{Bytes}
use Rattle.image_size.proofs.Laws.{four_length}
use Rattle.image_size.proofs.Plain.{clear_size}
use Rattle.image_writer.proofs.Plain.{clear_words_lem}
use Rattle.image_writer.proofs.put_four.Goals as goal

pub put_clear-requires : goal.put_clear-requires
put_clear-requires c = let a = c.args in
    let z = (c.clear.ensures c.if-clear.true).1 in record { fact_1 = omega arith; fact_2 = omega (arith, four_length a.w a.row.now a.g, clear_size a.w a.g a.row.now z) }

pub returns-then-clear : goal.returns-then-clear
returns-then-clear c = let a = c.args in
    let z = (c.clear.ensures c.if-clear.true).1 in
    let t : Bytes a.row.now = λ i. (c.type_inv.row i).fits in record { value = omega (arith, four_length a.w a.row.now a.g, clear_size a.w a.g a.row.now z); words_after = c.put_clear.ensures ∙ ap (sets a.words.now a.p) (sym (clear_words_lem a.w a.g a.row.now t (omega arith) z)) }
