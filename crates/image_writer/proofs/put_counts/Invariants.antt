use mathlib.Core.Path.{◌≡◌}
use mathlib.Core.List.{map}
use Prim.Native.Nat.{◌+◌}
use lib.ListN.{length, drop}
use lib.Seq.{sets}
use Rattle.image_format.specs.Image.{word, count_kind}
use Rattle.image_writer.proofs.put_counts.Given as goal

abbrev pub invariant-loop-i : goal.invariant-loop-i
invariant-loop-i l = (length l.words ≡ length l.initial.words) × (sets l.words (l.p + l.i) (map (word count_kind) (drop l.i l.counts)) ≡ sets l.initial.words l.p (map (word count_kind) l.counts))
