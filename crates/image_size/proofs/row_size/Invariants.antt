use mathlib.Core.Path.{◌≡◌}
use Prim.Native.Nat.{◌+◌, ◌-◌, ◌*◌, ◌/◌, ◌≤◌}
use lib.ListN.{length}
use Rattle.image_format.specs.Image.{row_words}
use Rattle.image_size.proofs.row_size.Given as goal

abbrev pub invariant-loop-i : goal.invariant-loop-i
invariant-loop-i l = (l.i ≤ l.i-end) × (l.i-end ≡ l.w / 32) × (l.n ≤ 97 * l.i) × (l.n + length (row_words (l.w / 32 - l.i) (4 * l.i) l.w l.row) ≡ length (row_words (l.w / 32) 0 l.w l.row))
