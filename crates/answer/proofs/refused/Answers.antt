use Rattle.answer.proofs.refused.Goals as goal

pub returns : goal.returns
returns c = c.refused_at.ensures
