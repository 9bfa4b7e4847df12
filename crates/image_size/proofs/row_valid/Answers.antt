use mathlib.Core.Path.{◌≡◌, refl, sym, ap, ◌∙◌}
use mathlib.Core.Bool.{true, false}
use native.Mathlib.Omega.{arith}
use Rattle.std.specs.Slice.Iter.{chunks_rest}
use Rattle.image_format.specs.Write.{all_valid}
use Rattle.image_size.proofs.Laws.{valid_append, valid_none}
use Rattle.image_size.proofs.row_valid.Goals as goal

pub returns-then-not-are_valid : goal.returns-then-not-are_valid
returns-then-not-are_valid c = let four = c.in-Some.four.now in
    let rest = chunks_rest c.next.new.self in
    let v : all_valid four ≡ false = sym c.are_valid.ensures ∙ c.if-not-are_valid.true in
    sym (sym c.loop-four.invariant.3 ∙ ap all_valid c.in-Some.ensures.steps.1.0 ∙ valid_append four rest ∙ rw v refl)

pub loop-four-preserved : goal.loop-four-preserved
loop-four-preserved c = let four = c.in-Some.four.now in
    let rest = chunks_rest c.next.new.self in
    let l = c.loop-four.invariant in
    let s = c.in-Some.ensures.steps in
    let v : all_valid four ≡ true = sym c.are_valid.ensures ∙ c.if-not-are_valid.false in
    (omega (arith, s.0), tt, s.0 ∙ l.2, sym (ap all_valid s.1.0 ∙ valid_append four rest ∙ rw v refl) ∙ l.3)

pub returns : goal.returns
returns c = let l = c.loop-four in
    sym (sym l.invariant.3 ∙ valid_none (chunks_rest l.four-iterator) 0 (omega (arith, c.in-None.ensures.steps.1.0)))
