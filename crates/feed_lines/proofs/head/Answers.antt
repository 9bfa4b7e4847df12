use mathlib.Core.Path.{ap, ◌∙◌}
use Rattle.feed_lines.specs.Line.{head_line}
use Rattle.feed_lines.proofs.Heads.{head_fits}
use Rattle.feed_lines.proofs.head.Goals as goal

pub returns : goal.returns
returns c = let ws = c.args.words.now in
    let e = c.head_line.ensures ∙ ap head_line c.head.ensures in record { value = e; fitting_line = rw e (head_fits ws) }
