use mathlib.Core.Path.{◌≡◌}
use Prim.Native.Nat.{◌+◌, ◌-◌, ◌≤◌}
use lib.ListN.{length}
use lib.Seq.{sets}
use Rattle.image_counters.proofs.Fields.{table_words}
use Rattle.image_counters.proofs.put_fields.Given as goal

abbrev pub invariant-loop-i : goal.invariant-loop-i
invariant-loop-i l = (l.i ≤ l.n) × (length l.words ≡ length l.initial.words) × (sets l.words (l.p + l.i) (table_words l.fields l.at l.x (l.n - l.i) l.i) ≡ sets l.initial.words l.p (table_words l.fields l.at l.x l.n 0))
