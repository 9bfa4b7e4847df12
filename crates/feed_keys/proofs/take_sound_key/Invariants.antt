use mathlib.Core.Path.{◌≡◌}
use Prim.Native.Nat.{ℕ, ◌+◌, ◌*◌, ◌/◌, ◌^◌, ◌≤◌, ◌<◌}
use lib.ListN.{length, take, get_or}
use Rattle.feed_keys.specs.Keys.{key_words, key_of}
use Rattle.feed_keys.proofs.take_sound_key.Given as goal

abbrev pub invariant-loop-i : goal.invariant-loop-i
invariant-loop-i l = (l.i ≤ l.m) × (l.m ≡ key_words l.n) × (l.n ≤ 64) × (length l.key ≡ 66) × (l.m < length l.words)
    × (l.bad ≡ 0 → (j : ℕ) → j < l.i → get_or l.words (1 + j) 0 / 2 ^ 24 ≡ 0x70) × (take (3 * l.i) l.key ≡ key_of (3 * l.i) l.words)
