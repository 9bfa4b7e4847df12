-- Where the group of a slot lies in a row, and what an addition in it leaves.
use mathlib.Core.Path.{◌≡◌, ap}
use mathlib.Core.Bool.{true}
use mathlib.Core.List.{List}
use Prim.Native.Nat.{ℕ, ◌+◌, ◌*◌, ◌/◌, ◌≤◌, ◌<◌}
use Rattle.geometry.specs.Geometry.{valid_width, stride}
use Rattle.geometry.proofs.Widths.{slot_in, group_in}
use Rattle.group.specs.declared.Group.{Group}
use Rattle.group.specs.Group.{added}
use Rattle.meter_memory.specs.Rows.{group_at}
use Rattle.meter_row.specs.Row.{added_in}

pub counts_in : (w slot : ℕ) → valid_width w ≡ true → slot < w → 8 * (slot / 8) + 8 ≤ w
counts_in w slot v h = (group_in w (slot / 8) v (slot_in w slot v h)).0

pub merge_in : (w slot bytes : ℕ) → valid_width w ≡ true → slot < w → bytes ≡ stride w → w + slot / 8 < bytes
merge_in w slot bytes v h e = rw e (group_in w (slot / 8) v (slot_in w slot v h)).1

pub added_is : (w : ℕ) (row : List ℕ) (slot amount : ℕ) (x : Group) → x ≡ group_at w row (slot / 8) → added x slot amount ≡ added_in w row slot amount
unfolding added_in
added_is w row slot amount x e = ap (λ (g : Group). added g slot amount) e
