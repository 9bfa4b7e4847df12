use mathlib.Core.Path.{◌≡◌, ap, ap₂, ◌∙◌}
use mathlib.Core.List.{map}
use Prim.Native.Nat.{ℕ, ◌+◌, ◌*◌, ◌-◌}
use native.Mathlib.Numerals.{add-one}
use native.Mathlib.Omega.{arith}
use lib.ListN.{length, take, drop, set, length-set, length-take}
use lib.Seq.{sets, length-sets}
use Rattle.image_format.specs.Image.{word, count_kind}
use Rattle.image_writer.specs.Writer.{count_words}
use Rattle.image_writer.proofs.put_clear.Goals as goal

pub put_counts-requires : goal.put_counts-requires
put_counts-requires c = let a = c.args in
    rw (length-set a.words.now a.p c.word.result) (omega (arith, length-take (8 * a.g + 32 - 8 * a.g) (drop (8 * a.g) a.row.now)))

pub shape_of-words : goal.shape_of-words
shape_of-words c = let a = c.args in
    let x = c.word.result in
    ap length c.put_counts.ensures ∙ length-sets (set a.words.now a.p x) (a.p + 1) (map (word count_kind) (take (8 * a.g + 32 - 8 * a.g) (drop (8 * a.g) a.row.now))) ∙ length-set a.words.now a.p x

pub returns : goal.returns
returns c = let a = c.args in
    let x = c.word.result in
    let n : 8 * a.g + 32 - 8 * a.g ≡ 32 = omega arith in
    rw n at c.put_counts.ensures
    ∙ ap₂ (λ (x i : ℕ). sets (set a.words.now a.p x) i (count_words 32 (8 * a.g) a.row.now)) c.word.ensures (add-one a.p)
