use mathlib.Core.Path.{ap, ◌∙◌}
use Rattle.little_endian.specs.Bytes.{number}
use Rattle.watch_key.proofs.word_at.Goals as goal

pub returns : goal.returns
returns c = c.number_of.ensures ∙ ap number c.eight.ensures
