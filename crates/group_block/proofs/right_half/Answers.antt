use mathlib.Core.Path.{ap₂}
use Prim.Native.Nat.{ℕ}
use Rattle.group_block.specs.Passed.{right_half}
use Rattle.group_block.proofs.right_half.Goals as goal

pub returns : goal.returns
unfolding right_half
returns c = ap₂ (λ (w m : ℕ). record { word = w; merge = m }) c.high_word.ensures c.high.ensures
