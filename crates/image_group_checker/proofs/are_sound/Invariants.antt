use mathlib.Core.Path.{◌≡◌}
use Prim.Native.Nat.{ℕ, ◌+◌, ◌-◌, ◌*◌, ◌/◌, ◌%◌, ◌^◌, ◌<◌}
use lib.Bits.{bit_xor}
use lib.ListN.{length, get_or, take, drop}
use Rattle.image_format.specs.Image.{count_kind}
use Rattle.image_group_checker.proofs.are_sound.Given as goal

-- the words that are taken and their bits, in step
abbrev pub invariant-loop-w : goal.invariant-loop-w
invariant-loop-w l =
    (drop (length l.yielded) (take (l.p + 8 - l.p) (drop l.p l.words)) ≡ l.w-iterator.a.rest.now)
    × (drop (length l.yielded) (take (l.at + 8 - l.at) (drop l.at l.fields)) ≡ l.w-iterator.b.rest.now)
    × ((j : ℕ) → j < length l.yielded → l.bits ≡ 0 → bit_xor (get_or l.words (l.p + j) 0) (count_kind * 2 ^ 28) / 2 ^ (get_or l.fields (l.at + j) 0 % 32) ≡ 0)
