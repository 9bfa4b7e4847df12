use mathlib.Core.Path.{ap, ap₂, ◌∙◌}
use Rattle.group.specs.Group.{united_groups}
use Rattle.group.specs.Results.{Outcome}
use Rattle.group.proofs.Results.{group_or}
use Rattle.meter_memory.specs.Pairs.{paired_at}
use Rattle.meter_union.proofs.united_at.Goals as goal

pub returns : goal.returns
unfolding paired_at
returns c =
    c.unwrap_or.ensures ∙ group_or c.load-target.result c.unite.result
    ∙ ap (λ (o : Outcome). o.group) (c.unite.ensures ∙ ap₂ united_groups c.load-target.ensures c.load.ensures)
