use mathlib.Core.Path.{ap, ◌∙◌}
use Rattle.signed.specs.declared.SignedAnswer.{SignedAnswer}
use Rattle.c_signed.proofs.meter_signed_estimate.Goals as goal

pub returns : goal.returns
returns c = let a = c.from.ensures ∙ c.estimate.ensures in
    let g = c.give_signed.ensures in record { value = g.value ∙ ap (λ (x : SignedAnswer). x.status) a; place_after = g.place_after ∙ ap (λ (x : SignedAnswer). x.position) a; figure_after = g.figure_after ∙ ap (λ (x : SignedAnswer). x.value) a }
