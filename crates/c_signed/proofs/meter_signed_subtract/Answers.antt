use mathlib.Core.Path.{ap, ◌∙◌}
use Rattle.answer.specs.declared.Answer.{Answer}
use Rattle.c_signed.proofs.meter_signed_subtract.Goals as goal

pub returns : goal.returns
returns c = let a = c.subtract.ensures in
    let g = c.give.ensures in record { value = g.value ∙ ap (λ (x : Answer). x.status) (c.from.ensures ∙ a.value); place_after = g.place_after ∙ ap (λ (x : Answer). x.position) (c.from.ensures ∙ a.value); figure_after = g.figure_after ∙ ap (λ (x : Answer). x.value) (c.from.ensures ∙ a.value); memory_after = a.memory_after }
