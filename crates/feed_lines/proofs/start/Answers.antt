use mathlib.Core.Path.{sym, ap, ◌∙◌}
use Prim.Native.Nat.{ℕ}
use lib.ListN.{length, replicate}
use Rattle.geometry.proofs.Widths.{shape_good}
use Rattle.meter.proofs.Calls.{cleared_good}
use Rattle.feed_lines.proofs.start.Goals as goal

pub returns : goal.returns
returns c = let m = c.args.memory.now in
    c.clear.ensures.memory_after ∙ sym (cleared_good c.args.d c.args.w m c.requires).1 ∙ ap (λ (n : ℕ). replicate n 0) (shape_good c.args.d c.args.w (length m) c.requires).1.2
