use mathlib.Core.Path.{◌≡◌, ap}
use Prim.Native.Nat.{ℕ, ◌*◌, ◌/◌, ◌%◌, ◌^◌, ◌≤◌}
use native.Mathlib.Omega.{arith}
use Rattle.group_block.specs.Block.{cap}
use Rattle.group_levels.proofs.Places.{field_le}
use Rattle.group_levels.proofs.put.Goals as goal
use Rattle.group_levels.proofs.put.Goals.{After-value_at-old}

module _ (c : After-value_at-old) where
  old_is : c.value_at-old.result * 2 ^ c.args.place ≡ c.args.word / 2 ^ c.args.place % cap c.args.level * 2 ^ c.args.place
  old_is = ap (λ (x : ℕ). x * 2 ^ c.args.place) c.value_at-old.ensures

  old_le : c.before.args.word / 2 ^ c.before.args.place % cap c.before.args.level * 2 ^ c.before.args.place ≤ c.before.args.word
  old_le = field_le c.before.args.word c.before.args.place (cap c.before.args.level)

pub overflow_sub-result : goal.overflow_sub-result
overflow_sub-result c = omega (arith, old_is c, old_le c, c.requires.fact_3)

pub overflow_add-result : goal.overflow_add-result
overflow_add-result c = omega (arith, old_is c, old_le c, c.requires.fact_3)

pub returns : goal.returns
returns c = omega (arith, old_is c, old_le c, c.requires.fact_3)
