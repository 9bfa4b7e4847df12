use mathlib.Core.Path.{◌≡◌}
use mathlib.Core.List.{map}
use Prim.Native.Nat.{ℕ, ◌+◌, ◌%◌}
use lib.ListN.{length, drop}
use lib.Seq.{sets}
use Rattle.image_reader.proofs.read_counts.Given as goal

abbrev pub invariant-loop-i : goal.invariant-loop-i
invariant-loop-i l = (length l.row ≡ length l.initial.row) × (sets l.row (l.at + l.i) (map (λ (x : ℕ). x % 256) (drop l.i l.words)) ≡ sets l.initial.row l.at (map (λ (x : ℕ). x % 256) l.words))
