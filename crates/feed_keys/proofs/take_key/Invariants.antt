use mathlib.Core.Path.{◌≡◌}
use Prim.Native.Nat.{◌+◌, ◌-◌, ◌*◌, ◌≤◌}
use lib.ListN.{length, take}
use Rattle.feed_keys.specs.Keys.{key_words, check_key, key_of}
use Rattle.feed_keys.proofs.take_key.Given as goal

abbrev pub invariant-loop-i : goal.invariant-loop-i
invariant-loop-i l = (l.i ≤ l.i-end) × (l.i-end ≡ key_words l.n) × (l.n ≤ 64) × (length l.key ≡ 66)
    × (check_key (l.i-end - l.i) (l.n - 3 * l.i) l.words (1 + l.i) ≡ check_key (key_words l.n) l.n l.words 1) × (take (3 * l.i) l.key ≡ key_of (3 * l.i) l.words)
