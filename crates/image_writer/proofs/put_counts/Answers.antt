use mathlib.Core.Path.{◌≡◌, refl, sym, ap, ◌∙◌}
use Prim.Native.Nat.{suc, ◌+◌}
use native.Mathlib.Nat.{add-zero}
use native.Mathlib.Omega.{arith}
use lib.ListN.{length-set}
use lib.Seq.{sets}
use Rattle.image_format.specs.Image.{word, count_kind}
use Rattle.image_format.proofs.Plain.{counts_step, counts_none}
use Rattle.image_writer.proofs.put_counts.Goals as goal

pub loop-i-init : goal.loop-i-init
loop-i-init c = let a = c.args in
    (refl, rw (add-zero a.p) refl)

pub loop-i-preserved : goal.loop-i-preserved
loop-i-preserved c = let l = c.loop-i in
    let a = c.args in
    let e : a.p + (l.i + 1) ≡ suc (a.p + l.i) = omega arith in (
      simp length-set l.invariant.0,
      rw (c.count_word.ensures, e) (ap (sets l.words (a.p + l.i)) (sym (counts_step (word count_kind) a.counts.now l.i (omega arith))) ∙ l.invariant.1),
    )

pub returns : goal.returns
returns c = let l = c.loop-i in
    let a = c.args in
    sym (ap (sets l.words (a.p + l.i)) (counts_none (word count_kind) a.counts.now l.i (omega arith))) ∙ l.invariant.1
