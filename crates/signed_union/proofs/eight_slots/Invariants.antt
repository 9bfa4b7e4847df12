use mathlib.Core.Path.{◌≡◌}
use lib.ListN.{length, get_or}
use mathlib.Core.Bool.{false}
use Prim.Native.Nat.{ℕ, ◌≤◌, ◌<◌}
use Rattle.signed_nodes.specs.declared.Node.{Node}
use Rattle.signed_union.specs.Slotted.{NodeOf, halves_of}
use Rattle.signed_union.proofs.eight_slots.Given as goal

abbrev pub none : Node
none = record { a = 0; b = 0; over = false; word = 0; merge = 0 }

abbrev pub invariant-loop-h : goal.invariant-loop-h
invariant-loop-h l = (l.h ≤ 2) × (length l.nodes ≡ 2) × ((k : ℕ) → k < l.h → NodeOf 2 (get_or l.nodes k none) (halves_of 2 k l.b))
