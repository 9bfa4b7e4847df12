-- A valid merge byte is a byte.
use mathlib.Core.Path.{◌≡◌}
use mathlib.Core.Bool.{true}
use Prim.Native.Nat.{ℕ, ◌<◌}
use Rattle.group_layout.proofs.Laws.{valid_in}
use Rattle.group.specs.Group.{valid_merge}

pub merge_byte : (m : ℕ) → valid_merge m ≡ true → m < 256
merge_byte m v = valid_in 3 m v
