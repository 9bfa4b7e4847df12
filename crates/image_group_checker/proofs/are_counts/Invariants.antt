use mathlib.Core.Path.{◌≡◌}
use Prim.Native.Nat.{ℕ, ◌*◌, ◌/◌, ◌^◌, ◌<◌}
use lib.ListN.{get_or}
use Rattle.image_format.specs.Image.{count_kind}
use Rattle.image_group_checker.proofs.are_counts.Given as goal

abbrev pub invariant-loop-w : goal.invariant-loop-w
invariant-loop-w l = (j : ℕ) → j < l.w-index → l.bits < 256 → get_or l.w-items j 0 / 2 ^ 8 ≡ count_kind * 2 ^ 20
