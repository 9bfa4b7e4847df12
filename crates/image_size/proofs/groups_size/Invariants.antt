use mathlib.Core.Path.{◌≡◌}
use Prim.Native.Nat.{◌+◌, ◌-◌, ◌*◌, ◌≤◌}
use lib.ListN.{length}
use Rattle.image_format.specs.Image.{groups_words}
use Rattle.image_size.proofs.groups_size.Given as goal

abbrev pub invariant-loop-merge : goal.invariant-loop-merge
invariant-loop-merge l = (l.n ≤ 24 * l.merge-index) × (l.n + length (groups_words (4 - l.merge-index) (l.g + l.merge-index) l.w l.row) ≡ length (groups_words 4 l.g l.w l.row))
