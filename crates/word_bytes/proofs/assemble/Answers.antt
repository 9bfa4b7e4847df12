use mathlib.Core.Path.{◌≡◌, sym, ap, ◌∙◌}
use mathlib.Core.List.{◌++◌, []}
use Prim.Native.Nat.{◌/◌, ◌<◌, min}
use native.Mathlib.Omega.{arith}
use lib.ListN.{length, take, drop, get_or}
use Rattle.std.proofs.lemmas.List.{get_or-take, length-take}
use Rattle.word_bytes.specs.Words.{whole_words}
use Rattle.laws.proofs.Lists.{copy_more}
use Rattle.word_bytes.proofs.Laws.{words_length, chunk_word, lent_words}
use Rattle.word_bytes.proofs.assemble.Goals as goal

pub loop-i-preserved : goal.loop-i-preserved
loop-i-preserved c = let l = c.loop-i in
    let a = c.args in
    let k = length a.bytes.now / 4 in
    let f = c.as_chunks.ensures in
    let n : l.i < c.min-n.result = omega (arith, length-take c.min-n.result c.as_chunks.result.0.now) in
    let m : l.i < k = omega (arith, f.front_len) in
    let w = chunk_word k l.i a.bytes.now m (omega arith) in
    let g = get_or-take c.min-n.result c.as_chunks.result.0.now l.i [] n in
    let v : c.from_be_bytes.result ≡ get_or (whole_words a.bytes.now) l.i 0 = c.from_be_bytes.ensures ∙ rw (g, f.front) (sym w) in
    rw (l.invariant, v) (copy_more (whole_words a.bytes.now) a.words.now l.i (omega (arith, words_length a.bytes.now)) (omega arith))

pub returns-clause-value : goal.returns-clause-value
returns-clause-value c = let a = c.args in
    omega (arith, words_length a.bytes.now, c.as_chunks.ensures.front_len)

pub returns-clause-words_after_2 : goal.returns-clause-words_after_2
returns-clause-words_after_2 c = let a = c.args in
    let n = c.min-n.result in
    let ws = whole_words a.bytes.now in
    let e : c.loop-i.i ≡ n = omega (arith, length-take n c.as_chunks.result.0.now) in
    let k : n ≡ min (length a.words.now) (length ws) = omega (arith, words_length a.bytes.now, c.as_chunks.ensures.front_len) in
    let x : c.loop-i.words ≡ take n ws ++ drop n a.words.now = rw (← e) c.loop-i.invariant in
    ap (take n) x ∙ lent_words n ws a.words.now k
