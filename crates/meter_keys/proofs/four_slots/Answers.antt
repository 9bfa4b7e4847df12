use mathlib.Core.Path.{◌≡◌, ap, ◌∙◌}
use mathlib.Core.List.{[]}
use Prim.Native.Nat.{ℕ, ◌+◌, ◌<◌, ◌^◌}
use native.Mathlib.Omega.{arith}
use lib.ListN.{get_or}
use Rattle.hash.specs.Hash.{slot_of}
use Rattle.meter_keys.specs.Keys.{key_slot}
use Rattle.meter_keys.proofs.Landing.{hash_lt}
use Rattle.meter_keys.proofs.Lanes.{in_four}
use Rattle.meter_keys.proofs.four_slots.Goals as goal
use Rattle.meter_keys.proofs.four_slots.Goals.{After-four_hashes-h}

-- a hash that is scaled has 32 bits
fits : (c : After-four_hashes-h) (r : ℕ) → r < 4 → get_or c.four_hashes-h.result r 0 < 2 ^ 32
fits c r h = rw (c.four_hashes-h.ensures r h) (hash_lt c.args.start.state (c.args.first + r) c.args.key.now)

pub overflow_cast-h : goal.overflow_cast-h
overflow_cast-h c = record { fits = fits c 0 (omega arith) }

pub overflow_cast-h-2 : goal.overflow_cast-h-2
overflow_cast-h-2 c = record { fits = fits (goal.at.overflow_cast-h-2 c).After-four_hashes-h 1 (omega arith) }

pub overflow_cast-h-3 : goal.overflow_cast-h-3
overflow_cast-h-3 c = record { fits = fits (goal.at.overflow_cast-h-3 c).After-four_hashes-h 2 (omega arith) }

pub overflow_cast-h-4 : goal.overflow_cast-h-4
overflow_cast-h-4 c = record { fits = fits (goal.at.overflow_cast-h-4 c).After-four_hashes-h 3 (omega arith) }

pub returns-clause-by_index : goal.returns-clause-by_index
unfolding key_slot
returns-clause-by_index c = let a = c.args in
    let h = c.four_hashes-h.ensures in
    in_four (λ (r : ℕ) (s : ℕ). s ≡ key_slot a.start.state a.w a.key.now (a.first + r)) _ _ _ _ []
    (c.scaled-a.ensures.value ∙ ap (λ (x : ℕ). slot_of x a.w) (h 0 (omega arith)))
    (c.scaled-b.ensures.value ∙ ap (λ (x : ℕ). slot_of x a.w) (h 1 (omega arith)))
    (c.scaled-c.ensures.value ∙ ap (λ (x : ℕ). slot_of x a.w) (h 2 (omega arith)))
    (c.scaled-d.ensures.value ∙ ap (λ (x : ℕ). slot_of x a.w) (h 3 (omega arith)))
