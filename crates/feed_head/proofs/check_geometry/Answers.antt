use mathlib.Core.Path.{◌≡◌, sym, ap, ◌∙◌}
use mathlib.Core.Bool.{true, false}
use Rattle.geometry.specs.Geometry.{valid_depth, valid_width}
use Rattle.answer.specs.Order.{first_of}
use Rattle.answer.specs.Refusals.{number, status}
use Rattle.feed_head.specs.Head.{head_depth, head_width, bad_geometry}
use Rattle.feed_head.proofs.check_geometry.Goals as goal

pub returns-then-not-valid_depth : goal.returns-then-not-valid_depth
unfolding bad_geometry first_of number status
returns-then-not-valid_depth c = let a = c.args in
    let e : valid_depth (head_depth a.payload) ≡ false = ap valid_depth (sym c.head_depth.ensures) ∙ sym c.valid_depth.ensures ∙ c.if-not-valid_depth.true in
    rw e

pub returns-then-not-valid_width : goal.returns-then-not-valid_width
unfolding bad_geometry first_of number status
returns-then-not-valid_width c = let a = c.args in
    let e : valid_depth (head_depth a.payload) ≡ true = ap valid_depth (sym c.head_depth.ensures) ∙ sym c.valid_depth.ensures ∙ c.if-not-valid_depth.false in
    let f : valid_width (head_width a.payload) ≡ false = ap valid_width (sym c.head_width.ensures) ∙ sym c.valid_width.ensures ∙ c.if-not-valid_width.true in
    rw (e, f)

pub returns : goal.returns
unfolding bad_geometry first_of number status
returns c = let a = c.args in
    let e : valid_depth (head_depth a.payload) ≡ true = ap valid_depth (sym c.head_depth.ensures) ∙ sym c.valid_depth.ensures ∙ c.if-not-valid_depth.false in
    let f : valid_width (head_width a.payload) ≡ true = ap valid_width (sym c.head_width.ensures) ∙ sym c.valid_width.ensures ∙ c.if-not-valid_width.false in
    rw (e, f)
