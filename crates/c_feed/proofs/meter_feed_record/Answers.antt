use mathlib.Core.Path.{ap, ◌∙◌}
use Rattle.answer.specs.declared.Answer.{Answer}
use Rattle.feed.specs.Answers.{record_answer}
use Rattle.c_feed.proofs.meter_feed_record.Goals as goal

pub returns : goal.returns
returns c = let r = c.record.ensures in
    let a = c.answer.ensures ∙ ap record_answer r.value in
    let g = c.give.ensures in record { value = g.value ∙ ap (λ (x : Answer). x.status) a; place_after = g.place_after ∙ ap (λ (x : Answer). x.position) a; figure_after = g.figure_after ∙ ap (λ (x : Answer). x.value) a; memory_after = r.memory_after }
