use mathlib.Core.Path.{sym, ap₂, ◌∙◌}
use Rattle.answer.specs.Order.{earlier}
use Rattle.signed.proofs.Tests.{shape_is}
use Rattle.signed.proofs.check_shape.Goals as goal

pub returns : goal.returns
returns c = let a = c.args in
    c.first.ensures ∙ ap₂ earlier c.check_shape.ensures c.check_parity.ensures ∙ sym (shape_is a.d a.w a.bytes)
