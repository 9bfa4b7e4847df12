use mathlib.Core.Path.{◌≡◌}
use Prim.Native.Nat.{◌+◌, ◌-◌, ◌*◌, ◌≤◌}
use lib.ListN.{length, drop}
use lib.Seq.{sets}
use Rattle.geometry.specs.Geometry.{stride}
use Rattle.image_format.specs.Image.{rows_words}
use Rattle.image_writer.proofs.put_rows.Given as goal

abbrev pub invariant-loop-r : goal.invariant-loop-r
invariant-loop-r l = (l.r ≤ l.d) × (l.at + length (rows_words (l.d - l.r) l.w (drop (l.r * stride l.w) l.memory)) ≡ l.p + length (rows_words l.d l.w l.memory)) × (length l.words ≡ length l.initial.words) × (sets l.words l.at (rows_words (l.d - l.r) l.w (drop (l.r * stride l.w) l.memory)) ≡ sets l.initial.words l.p (rows_words l.d l.w l.memory))
