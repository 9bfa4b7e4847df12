use mathlib.Core.Path.{ap, ◌∙◌}
use Prim.Native.Nat.{ℕ}
use Rattle.hash.specs.Hash.{fnv}
use Rattle.hash.proofs.Hash.in_row.Goals as goal

pub returns : goal.returns
unfolding fnv
returns c = c.run.ensures ∙ ap (λ (h : ℕ). fnv h c.args.key.now) c.step.ensures
