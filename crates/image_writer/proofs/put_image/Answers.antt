use mathlib.Core.Path.{◌≡◌, ap, ◌∙◌}
use mathlib.Core.List.{List}
use Prim.Native.Nat.{ℕ, ◌+◌, ◌*◌}
use native.Mathlib.Omega.{arith}
use lib.ListN.{length, set, length-set}
use Rattle.word.specs.Word.{head_kind}
use Rattle.image_format.specs.Image.{word, head_payload, end_word}
use Rattle.image_size.proofs.Laws.{image_length}
use Rattle.image_writer.proofs.Laws.{image_put}
use Rattle.image_writer.proofs.put_image.Goals as goal
use Rattle.image_writer.proofs.put_image.Goals.{After-put_rows-end}

pub bounds-words-0 : goal.bounds-words-0
bounds-words-0 c = let a = c.args in
    omega (arith, image_length a.d a.w a.memory.now)

pub put_rows-end-requires : goal.put_rows-end-requires
put_rows-end-requires c = let a = c.args in record { fact_1 = c.requires.fact_1; fact_2 = rw (length-set a.words.now 0 c.word.result) (omega (arith, image_length a.d a.w a.memory.now)); fact_3 = c.requires.fact_3 }

kept : (c : After-put_rows-end) → length c.put_rows-end.new.words ≡ length c.args.words.now
kept c = let a = c.args in
    omega (arith, length-set a.words.now 0 c.word.result)

pub offset_bounds-words-end : goal.offset_bounds-words-end
offset_bounds-words-end c = let a = c.args in
    let k = kept (goal.at.offset_bounds-words-end c).After-put_rows-end in omega (arith, image_length a.d a.w a.memory.now, c.put_rows-end.ensures.value)

pub bounds-words-end : goal.bounds-words-end
bounds-words-end c = let a = c.args in
    let k = kept (goal.at.bounds-words-end c).After-put_rows-end in omega (arith, image_length a.d a.w a.memory.now, c.put_rows-end.ensures.value)

pub shape_of-words : goal.shape_of-words
shape_of-words c = length-set c.put_rows-end.new.words c.put_rows-end.result c.word-2.result ∙ kept (goal.at.shape_of-words c).After-put_rows-end

pub returns : goal.returns
unfolding head_payload end_word
returns c = let a = c.args in
    let s = c.put_rows-end in
    ap (λ (x : List ℕ). set x s.result c.word-2.result) s.ensures.words_after
    ∙ image_put a.d a.w a.memory.now a.words.now c.word.result c.word-2.result s.result (omega arith)
    (c.word.ensures ∙ ap (λ (x : ℕ). word head_kind (x * 16 + a.d)) c.log_width.ensures.value) s.ensures.value c.word-2.ensures
