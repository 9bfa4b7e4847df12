use mathlib.Core.Path.{◌≡◌, refl, sym, ap, ap₂, ◌∙◌}
use Prim.Native.Nat.{ℕ, suc, ◌+◌, ◌-◌, ◌*◌, ◌<◌}
use native.Mathlib.Nat.{add-zero, sub-zero}
use native.Mathlib.Omega.{arith}
use borrow.Author.Rules.{rules}
use mir.Val.{Fits}
use mir.Syntax.{w8}
use lib.ListN.{length, get_or, length-set}
use lib.Seq.{sets}
use Rattle.laws.proofs.Lists.{Bytes}
use Rattle.group.proofs.Changing.{Good}
use Rattle.image_format.specs.Image.{word, count_kind}
use Rattle.image_format.specs.Write.{group_size}
use Rattle.image_format.proofs.Fields.{size_most, field_in}
use Rattle.image_counters.proofs.Fields.{table_words, table_step, table_none, table_is}
use Rattle.image_counters.proofs.put_fields.Goals as goal

pub loop-i-init : goal.loop-i-init
loop-i-init c = let a = c.args in
    let t = c.args.fields.now in
    (omega arith, refl, ap₂ (λ (q n : ℕ). sets a.words.now q (table_words t (17 * a.c) c.of-x.result n 0)) (add-zero a.p) (sub-zero (get_or t (17 * a.c) 0)))

pub bounds-fields-at-in-loop-i : goal.bounds-fields-at-in-loop-i
bounds-fields-at-in-loop-i c = omega (arith, c.requires.fact_3.1.0, size_most c.args.g.merge)

pub bounds-fields-at-in-loop-i-2 : goal.bounds-fields-at-in-loop-i-2
bounds-fields-at-in-loop-i-2 c = omega (arith, c.requires.fact_3.1.0, size_most c.args.g.merge)

pub bits_at-part-requires : goal.bits_at-part-requires
bits_at-part-requires c = let i = c.loop-i.i in
    let l : i < group_size c.args.g.merge = omega (arith, c.requires.fact_3.1.0) in
    let e = c.requires.fact_3.1.1 i l in
    let f = field_in c.args.g.merge i l in record { fact_1 = omega arith; fact_2 = omega arith }

pub bounds-words-p : goal.bounds-words-p
bounds-words-p c = omega (arith, c.requires.fact_3.1.0)

pub loop-i-preserved : goal.loop-i-preserved
loop-i-preserved c = let l = c.loop-i in
    let a = c.args in
    let t = c.args.fields.now in
    let x = c.of-x.result in
    let v = c.word.ensures ∙ ap (word count_kind) c.bits_at-part.ensures.value in
    let e : a.p + (l.i + 1) ≡ suc (a.p + l.i) = omega arith in
    (omega arith, simp length-set (omega arith), rw (v, e) (ap (sets l.words (a.p + l.i)) (sym (table_step t (17 * a.c) x (get_or t (17 * a.c) 0) l.i (omega arith))) ∙ l.invariant.2))

pub overflow_add-result : goal.overflow_add-result
overflow_add-result c = omega (arith, c.requires.fact_3.1.0)

pub returns : goal.returns
returns c = let a = c.args in
    let l = c.loop-i in
    let t = c.args.fields.now in
    let d = c.requires.fact_3.1 in
    let n = get_or t (17 * a.c) 0 in
    let x = c.of-x in
    let long : length a.g.counts ≡ 8 = search rules in
    let small : Bytes a.g.counts = λ i. let f : Fits w8 (get_or a.g.counts i 0) = search rules in f.fits in
    let o : Good a.g = record { merges = c.requires.fact_2; eight = record { long = long; small = small } } in record {
      value = omega (arith, d.0);
      words_after = sym (ap (sets l.words (a.p + l.i)) (table_none t (17 * a.c) x.result (n - l.i) l.i (omega arith)))
          ∙ l.invariant.2 ∙ ap (sets a.words.now a.p) (table_is a.g t (17 * a.c) x.result n o d x.ensures d.0);
    }
