use mathlib.Core.Path.{sym, ◌∙◌}
use Rattle.answer.specs.Order as order_spec
use Rattle.answer.specs.Refusals.{number, status}
use Rattle.answer.proofs.Order.{earlier_none, earlier_first}
use Rattle.answer.proofs.Refusals.{in_order, positive}
use Rattle.answer.proofs.first.Goals as goal

pub returns-in_default : goal.returns-in_default
unfolding status order_spec.earlier
returns-in_default c = rw c.in_default.is

pub returns-in_default-b : goal.returns-in_default-b
unfolding status
returns-in_default-b c = rw (c.in-Err.is, c.in_default-b.is) (sym (earlier_none (number c.in-Err.x)))

pub returns-then-le : goal.returns-then-le
unfolding status
returns-then-le c = let x = c.in-Err.x in
    let y = c.in-Err-b.y in
    rw (c.in-Err.is, c.in-Err-b.is) (sym (rw (sym (in_order x y) ∙ sym c.le.ensures ∙ c.if-le.true) at (earlier_first (number x) (number y) (positive x) (positive y))))

pub returns-else-le : goal.returns-else-le
unfolding status
returns-else-le c = let x = c.in-Err.x in
    let y = c.in-Err-b.y in
    rw (c.in-Err.is, c.in-Err-b.is) (sym (rw (sym (in_order x y) ∙ sym c.le.ensures ∙ c.if-le.false) at (earlier_first (number x) (number y) (positive x) (positive y))))
