use mathlib.Core.Path.{sym, ap₂, ◌∙◌}
use Rattle.answer.specs.Order.{earlier}
use Rattle.answer.specs.Refusals.{status}
use Rattle.signed_group.specs.Group.{bad_pair}
use Rattle.signed_group.proofs.bad_pair.Goals as goal

pub returns-then-clean_pair : goal.returns-then-clean_pair
unfolding status
returns-then-clean_pair c = sym (c.clean_pair.ensures c.if-clean_pair.true)

pub returns : goal.returns
unfolding bad_pair
returns c = c.first.ensures ∙ ap₂ earlier c.bad_group.ensures c.bad_group-2.ensures
