use mathlib.Core.Path.{◌≡◌}
use Prim.Native.Nat.{◌+◌, ◌≤◌}
use lib.ListN.{length}
use lib.Seq.{sets}
use Rattle.image_format.specs.Image.{parts}
use Rattle.image_counters.proofs.put_parts.Given as goal

abbrev pub invariant-loop-left : goal.invariant-loop-left
invariant-loop-left l = (l.left ≤ l.n) × (l.at + l.left ≡ l.p + l.n) × (length l.words ≡ length l.initial.words) × (sets l.words l.at (parts l.left l.value) ≡ sets l.initial.words l.p (parts l.n l.value))
