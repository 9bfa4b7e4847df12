use mathlib.Core.Path.{◌≡◌}
use Prim.Native.Nat.{ℕ, ◌-◌, ◌*◌, ◌^◌, ◌<◌}
use mathlib.Core.List.{List}
use lib.ListN.{get_or, drop}
use Rattle.group.specs.declared.Group.{Group}
use Rattle.group.specs.Results.{Outcome}
use Rattle.answer.specs.Refusals.{status}
use Rattle.geometry.specs.Geometry.{stride}
use Rattle.meter_memory.specs.Rows.{row_of, of_rows, least_or}
use Rattle.meter_row.specs.Row.{added_in}
use Rattle.meter_memory.proofs.Tried.{Tried}
use Rattle.meter_row.specs.Slots.{added_value}
use Rattle.meter_update.proofs.try_rows.Given as goal

-- what row r is left with
abbrev pub outcome : ℕ → List ℕ → ℕ → ℕ → List ℕ → Outcome
outcome w slots amount r row = added_in w row (get_or slots r 0) amount

-- the rows before row r are tried, and their values are in the least
abbrev pub Valued : ℕ → ℕ → List ℕ → List ℕ → ℕ → List Group → ℕ → ℕ → ℕ → Type 0
Valued d w memory slots amount groups status value r = Tried (outcome w slots amount) d w memory groups status r
    × (least_or value (of_rows (added_value w slots amount) (stride w) (d - r) r (drop (r * stride w) memory)) ≡ least_or (2 ^ 64 - 1) (of_rows (added_value w slots amount) (stride w) d 0 memory))
    × (0 < r → added_value w slots amount 0 (row_of w memory 0) < 2 ^ 64)

abbrev pub invariant-loop-r : goal.invariant-loop-r
invariant-loop-r l = Valued l.d l.w l.memory l.slots l.amount l.t.groups (status l.status) l.value l.r
