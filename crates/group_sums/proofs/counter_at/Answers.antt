use mathlib.Core.Path.{sym, ap, ◌∙◌}
use Prim.Native.Nat.{ℕ, ◌<◌}
use native.Mathlib.Omega.{arith}
use Rattle.group_block.specs.Block.{cap}
use Rattle.group_sums.proofs.Places.{has_level, counter_at_lem}
use Rattle.group_sums.proofs.counter_at.Goals as goal
use Rattle.group_sums.proofs.counter_at.Goals.{Start}

word_in : (c : Start) → c.args.word < cap 3
unfolding cap
word_in c = omega arith

pub returns : goal.returns
returns c = let a = c.args in
    ap (λ (x : ℕ). record { value = x; level = c.level_at-level.result }) c.value_at.ensures
    ∙ sym
    (counter_at_lem a.word a.merge a.slot c.level_at-level.result c.place-at.result (word_in (goal.at.returns c).Start) c.requires.fact_2
    (has_level a.word a.merge a.slot c.level_at-level.ensures.value) c.place-at.ensures.value)
