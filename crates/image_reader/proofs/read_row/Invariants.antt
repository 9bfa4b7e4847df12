use mathlib.Core.Path.{◌≡◌}
use Prim.Native.Nat.{◌+◌, ◌-◌, ◌*◌, ◌/◌, ◌≤◌}
use lib.ListN.{length}
use Rattle.image_format.specs.Read.{after_fours, read_fours}
use Rattle.image_reader.proofs.read_row.Given as goal

abbrev pub invariant-loop-i : goal.invariant-loop-i
invariant-loop-i l = (l.i ≤ l.i-end) × (l.i-end ≡ l.w / 32) × (l.at ≤ l.p + 97 * l.i) × (length l.row ≡ length l.initial.row) × (after_fours (l.w / 32 - l.i) l.words l.at ≡ after_fours (l.w / 32) l.words l.p) × (read_fours (l.w / 32 - l.i) (4 * l.i) l.w l.row l.words l.at ≡ read_fours (l.w / 32) 0 l.w l.initial.row l.words l.p)
