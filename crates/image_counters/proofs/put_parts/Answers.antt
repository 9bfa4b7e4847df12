use mathlib.Core.Path.{refl, sym, ap, ◌∙◌}
use native.Mathlib.Omega.{arith}
use native.Mathlib.Numerals.{add-one}
use lib.ListN.{length-set}
use lib.Seq.{sets}
use Rattle.image_counters.proofs.Laws.{parts_step, parts_none}
use Rattle.image_counters.proofs.put_parts.Goals as goal

pub loop-left-init : goal.loop-left-init
loop-left-init c = (omega arith, refl, refl, refl)

pub loop-left-preserved : goal.loop-left-preserved
loop-left-preserved c = let l = c.loop-left in
    let a = c.args in
    (omega arith, omega arith, simp length-set (omega arith), rw (c.word.ensures, add-one l.at) (ap (sets l.words l.at) (sym (parts_step l.left a.value (omega arith))) ∙ l.invariant.3))

pub returns : goal.returns
returns c = let l = c.loop-left in
    let a = c.args in record { value = omega arith; words_after = sym (ap (sets l.words l.at) (parts_none l.left a.value (omega arith))) ∙ l.invariant.3 }
