use mathlib.Core.Path.{ap₂}
use Prim.Native.Nat.{ℕ}
use Rattle.group_block.specs.Passed.{left_half}
use Rattle.group_block.proofs.left_half.Goals as goal

pub returns : goal.returns
unfolding left_half
returns c = ap₂ (λ (w m : ℕ). record { word = w; merge = m }) c.low_word.ensures c.low.ensures
