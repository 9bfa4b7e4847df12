use mathlib.Core.Path.{◌≡◌, sym, ◌∙◌}
use mathlib.Core.Bool.{true, false}
use native.Mathlib.Omega.{arith}
use borrow.Author.Tests.{eq-eqb, ne_eqb}
use Rattle.geometry.specs.Geometry.{valid_depth, valid_width, size}
use Rattle.answer.specs.Order.{first_of}
use Rattle.answer.specs.Refusals.{number, status}
use Rattle.geometry.proofs.Widths.{size_in}
use Rattle.geometry.proofs.check_shape.Goals as goal
use Rattle.geometry.proofs.check_shape.Goals.{Else-not-valid_depth, Else-not-valid_width, Then-not-valid_depth, Then-not-valid_width}

depth_bad : (c : Then-not-valid_depth) → valid_depth c.args.d ≡ false
depth_bad c = sym c.valid_depth.ensures ∙ c.if-not-valid_depth.true

depth_good : (c : Else-not-valid_depth) → valid_depth c.args.d ≡ true
depth_good c = sym c.valid_depth.ensures ∙ c.if-not-valid_depth.false

width_bad : (c : Then-not-valid_width) → valid_width c.args.w ≡ false
width_bad c = sym c.valid_width.ensures ∙ c.if-not-valid_width.true

width_good : (c : Else-not-valid_width) → valid_width c.args.w ≡ true
width_good c = sym c.valid_width.ensures ∙ c.if-not-valid_width.false

pub returns-then-not-valid_depth : goal.returns-then-not-valid_depth
unfolding first_of status number
returns-then-not-valid_depth c = rw (depth_bad c)

pub returns-then-not-valid_width : goal.returns-then-not-valid_width
unfolding first_of status number
returns-then-not-valid_width c = rw (depth_good (goal.at.returns-then-not-valid_width c).Else-not-valid_depth, width_bad c)

pub stride-requires : goal.stride-requires
stride-requires c = width_good c

pub overflow_mul-d : goal.overflow_mul-d
overflow_mul-d c = rw c.stride.ensures (omega (arith, size_in c.args.d c.args.w (depth_good (goal.at.overflow_mul-d c).Else-not-valid_depth) (width_good (goal.at.overflow_mul-d c).Else-not-valid_width)))

pub returns-then-bytes-d : goal.returns-then-bytes-d
unfolding first_of size status number
returns-then-bytes-d c = let a = c.args in
    rw (depth_good (goal.at.returns-then-bytes-d c).Else-not-valid_depth, width_good (goal.at.returns-then-bytes-d c).Else-not-valid_width, ne_eqb a.bytes (size a.d a.w) (λ e. c.if-bytes-d.true (rw c.stride.ensures e)))

pub returns : goal.returns
unfolding first_of size status number
returns c = let a = c.args in
    rw (depth_good (goal.at.returns c).Else-not-valid_depth, width_good (goal.at.returns c).Else-not-valid_width, eq-eqb a.bytes (size a.d a.w) (rw c.stride.ensures at c.if-bytes-d.false))
