use mathlib.Core.Path.{◌≡◌}
use mathlib.Core.Bool.{true}
use Prim.Native.Nat.{◌+◌, ◌-◌, ◌≤◌, ◌<◌}
use lib.ListN.{length}
use lib.Seq.{sets}
use Rattle.image_format.specs.Image.{is_first, slots_words, group_words}
use Rattle.image_format.specs.Write.{slots_size, group_size}
use Rattle.image_counters.proofs.put_group.Given as goal

abbrev pub invariant-loop-k : goal.invariant-loop-k
invariant-loop-k l = (l.k ≤ l.next)
    × (l.next ≤ 8)
    × (l.next < 8 → is_first l.g.merge l.next ≡ true)
    × (l.at + slots_size (8 - l.next) l.next l.g.merge ≡ l.p + group_size l.g.merge)
    × (length l.words ≡ length l.initial.words)
    × (sets l.words l.at (slots_words (8 - l.next) l.next l.g) ≡ sets l.initial.words l.p (group_words l.g))
