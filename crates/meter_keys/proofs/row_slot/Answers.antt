use mathlib.Core.Path.{ap, ◌∙◌}
use Prim.Native.Nat.{ℕ}
use Rattle.hash.specs.Hash.{slot_of}
use Rattle.meter_keys.specs.Keys.{key_slot}
use Rattle.meter_keys.proofs.row_slot.Goals as goal

pub returns : goal.returns
unfolding key_slot
returns c = record { value = c.scaled.ensures.value ∙ ap (λ (h : ℕ). slot_of h c.args.w) c.in_row-h.ensures; upper_bound = c.scaled.ensures.upper_bound }
