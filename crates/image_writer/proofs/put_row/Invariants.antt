use mathlib.Core.Path.{◌≡◌}
use Prim.Native.Nat.{◌+◌, ◌-◌, ◌*◌, ◌/◌, ◌≤◌}
use lib.ListN.{length}
use lib.Seq.{sets}
use Rattle.image_format.specs.Image.{row_words}
use Rattle.image_writer.proofs.put_row.Given as goal

abbrev pub invariant-loop-i : goal.invariant-loop-i
invariant-loop-i l = (l.i ≤ l.i-end) × (l.i-end ≡ l.w / 32) × (l.at + length (row_words (l.w / 32 - l.i) (4 * l.i) l.w l.row) ≡ l.p + length (row_words (l.w / 32) 0 l.w l.row)) × (length l.words ≡ length l.initial.words) × (sets l.words l.at (row_words (l.w / 32 - l.i) (4 * l.i) l.w l.row) ≡ sets l.initial.words l.p (row_words (l.w / 32) 0 l.w l.row))
