use mathlib.Core.Path.{◌≡◌}
use Prim.Native.Nat.{◌+◌, ◌-◌, ◌≤◌}
use lib.ListN.{length}
use lib.Seq.{sets}
use Rattle.image_format.specs.Image.{groups_words}
use Rattle.image_writer.proofs.put_groups.Given as goal

abbrev pub invariant-loop-i : goal.invariant-loop-i
invariant-loop-i l = (l.i ≤ 4) × (l.at + length (groups_words (4 - l.i) (l.g + l.i) l.w l.row) ≡ l.p + length (groups_words 4 l.g l.w l.row)) × (length l.words ≡ length l.initial.words) × (sets l.words l.at (groups_words (4 - l.i) (l.g + l.i) l.w l.row) ≡ sets l.initial.words l.p (groups_words 4 l.g l.w l.row))
