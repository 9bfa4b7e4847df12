-- What a call does in each row by the slots of the rows, and that these are the key's.
use mathlib.Core.Path.{◌≡◌, sym, ap, ◌∙◌}
use mathlib.Core.List.{List, [], ◌∷◌, append-nil}
use Prim.Native.Nat.{ℕ, ◌+◌, ◌*◌, ◌/◌, ◌<◌}
use native.Mathlib.Nat.{one-mul}
use native.Mathlib.Omega.{arith}
use lib.ListN.{length, get_or, take, drop, drop_of_length-le}
use lib.Seq.{take_all}
use Rattle.group.specs.Group.{read}
use Rattle.hash.specs.Hash.{basis}
use Rattle.geometry.specs.Geometry.{stride, size}
use Rattle.answer.specs.Order.{earliest}
use Rattle.meter_memory.specs.Rows.{map_rows, of_rows, group_at, least_or, least}
use Rattle.meter_keys.specs.Keys.{key_slot}
use Rattle.meter_row.specs.Row.{added_in, added_row, update_status, update_row, read_row}
use Rattle.answer.proofs.Order.{earlier_none}
use Rattle.meter_row.specs.Slots.{added_status, added_value, slot_added, slot_status, slot_value}
use Rattle.meter_memory.proofs.Agree.{reads_same, maps_same}
use Rattle.meter.specs.Meter.{read_status, read_value}

-- the value of the key's counter that an update of row r leaves
abbrev pub left_value : ℕ → List ℕ → ℕ → ℕ → List ℕ → ℕ
left_value w key amount r row = (read (added_in w row (key_slot basis w key r) amount).group (key_slot basis w key r)).value

-- a memory of one row
pub one_read : (f : ℕ → List ℕ → ℕ) (s : ℕ) (memory : List ℕ) → length memory ≡ s → of_rows f s 1 0 memory ≡ f 0 memory ∷ []
unfolding of_rows
one_read f s memory l = rw (take_all s memory (omega arith))

pub one_map : (f : ℕ → List ℕ → List ℕ) (s : ℕ) (memory : List ℕ) → length memory ≡ s → map_rows f s 1 0 memory ≡ f 0 memory
unfolding map_rows
one_map f s memory l = rw (take_all s memory (omega arith), drop_of_length-le memory {i = s} (omega arith)) (append-nil (f 0 memory))

module _ (d w : ℕ) (memory key slots : List ℕ) {state : ℕ} (start : state ≡ basis) (are : (r : ℕ) → r < d → get_or slots r 0 ≡ key_slot state w key r) where
  slot_at : (k : ℕ) → k < d → get_or slots (0 + k) 0 ≡ key_slot basis w key (0 + k)
  slot_at k h = are (0 + k) (omega arith) ∙ ap (λ (s : ℕ). key_slot s w key (0 + k)) start

  -- what is read and written by the slots of the rows is by the key: for any operation on a slot of a row
  pub reads_by_key : (f : ℕ → List ℕ → ℕ)
      → of_rows (λ (r : ℕ) (row : List ℕ). f (get_or slots r 0) row) (stride w) d 0 memory
      ≡ of_rows (λ (r : ℕ) (row : List ℕ). f (key_slot basis w key r) row) (stride w) d 0 memory
  reads_by_key f =
      reads_same (stride w) (λ (r : ℕ) (row : List ℕ). f (get_or slots r 0) row) (λ (r : ℕ) (row : List ℕ). f (key_slot basis w key r) row) d 0 memory memory
      (λ k h. ap (λ (s : ℕ). f s (take (stride w) (drop (k * stride w) memory))) (slot_at k h))

  pub maps_by_key : (f : ℕ → List ℕ → List ℕ)
      → map_rows (λ (r : ℕ) (row : List ℕ). f (get_or slots r 0) row) (stride w) d 0 memory
      ≡ map_rows (λ (r : ℕ) (row : List ℕ). f (key_slot basis w key r) row) (stride w) d 0 memory
  maps_by_key f =
      maps_same (stride w) (λ (r : ℕ) (row : List ℕ). f (get_or slots r 0) row) (λ (r : ℕ) (row : List ℕ). f (key_slot basis w key r) row) d 0 memory
      (λ k h. ap (λ (s : ℕ). f s (take (stride w) (drop (k * stride w) memory))) (slot_at k h))

  pub status_by_key : (amount : ℕ)
      → earliest (of_rows (added_status w slots amount) (stride w) d 0 memory) ≡ earliest (of_rows (update_status basis w key amount) (stride w) d 0 memory)
  unfolding update_status
  status_by_key amount = ap earliest (reads_by_key (λ (s : ℕ) (row : List ℕ). (added_in w row s amount).status))

  pub added_by_key : (amount : ℕ)
      → map_rows (slot_added w slots amount) (stride w) d 0 memory ≡ map_rows (update_row basis w key amount) (stride w) d 0 memory
  unfolding update_row
  added_by_key amount = maps_by_key (λ (s : ℕ) (row : List ℕ). added_row w row s amount)

  pub left_by_key : (amount : ℕ) → least (of_rows (added_value w slots amount) (stride w) d 0 memory) ≡ least (of_rows (left_value w key amount) (stride w) d 0 memory)
  left_by_key amount = ap least (reads_by_key (λ (s : ℕ) (row : List ℕ). (read (added_in w row s amount).group s).value))

  pub read_status_by_key : earliest (of_rows (slot_status w slots) (stride w) d 0 memory) ≡ earliest (of_rows (read_status w key) (stride w) d 0 memory)
  unfolding read_status read_row
  read_status_by_key = ap earliest (reads_by_key (λ (s : ℕ) (row : List ℕ). (read (group_at w row (s / 8)) s).status))

  pub read_value_by_key : least (of_rows (slot_value w slots) (stride w) d 0 memory) ≡ least (of_rows (read_value w key) (stride w) d 0 memory)
  unfolding read_value read_row
  read_value_by_key = ap least (reads_by_key (λ (s : ℕ) (row : List ℕ). (read (group_at w row (s / 8)) s).value))

-- the same of a meter of one row, by its one slot
pub one_long : (d w bytes : ℕ) → d ≡ 1 → bytes ≡ size d w → bytes ≡ stride w
unfolding size
one_long d w bytes one l = l ∙ ap (λ (n : ℕ). n * stride w) one ∙ one-mul (stride w)

module _ (d w : ℕ) (memory key : List ℕ) (one : d ≡ 1) (long : length memory ≡ stride w) {state slot : ℕ} (start : state ≡ basis) (at : slot ≡ key_slot state w key 0) where
  at_basis : slot ≡ key_slot basis w key 0
  at_basis = at ∙ ap (λ (s : ℕ). key_slot s w key 0) start

  one_earliest : (f : ℕ → List ℕ → ℕ) → f 0 memory ≡ earliest (of_rows f (stride w) d 0 memory)
  unfolding earliest
  one_earliest f =
      sym (earlier_none (f 0 memory)) ∙ ap earliest (sym (one_read f (stride w) memory long)) ∙ ap (λ (n : ℕ). earliest (of_rows f (stride w) n 0 memory)) (sym one)

  pub one_status : (amount : ℕ) → (added_in w memory slot amount).status ≡ earliest (of_rows (update_status basis w key amount) (stride w) d 0 memory)
  unfolding update_status
  one_status amount = ap (λ (s : ℕ). (added_in w memory s amount).status) at_basis ∙ one_earliest (update_status basis w key amount)

  pub one_added : (amount : ℕ)
      → added_row w memory slot amount ≡ map_rows (update_row basis w key amount) (stride w) d 0 memory
  unfolding update_row
  one_added amount =
      ap (λ (s : ℕ). added_row w memory s amount) at_basis
      ∙ sym (one_map (update_row basis w key amount) (stride w) memory long)
      ∙ ap (λ (n : ℕ). map_rows (update_row basis w key amount) (stride w) n 0 memory) (sym one)

  pub one_read_status : (read (group_at w memory (slot / 8)) slot).status ≡ earliest (of_rows (read_status w key) (stride w) d 0 memory)
  unfolding read_status read_row
  one_read_status = ap (λ (s : ℕ). (read (group_at w memory (s / 8)) s).status) at_basis ∙ one_earliest (read_status w key)

  one_least : (f : ℕ → List ℕ → ℕ) → f 0 memory ≡ least (of_rows f (stride w) d 0 memory)
  unfolding least least_or
  one_least f = ap least (sym (one_read f (stride w) memory long)) ∙ ap (λ (n : ℕ). least (of_rows f (stride w) n 0 memory)) (sym one)

  pub one_left : (amount : ℕ) → (read (added_in w memory slot amount).group slot).value ≡ least (of_rows (left_value w key amount) (stride w) d 0 memory)
  one_left amount = ap (λ (s : ℕ). (read (added_in w memory s amount).group s).value) at_basis ∙ one_least (left_value w key amount)

  pub one_read_value : (read (group_at w memory (slot / 8)) slot).value ≡ least (of_rows (read_value w key) (stride w) d 0 memory)
  unfolding read_value read_row
  one_read_value = ap (λ (s : ℕ). (read (group_at w memory (s / 8)) s).value) at_basis ∙ one_least (read_value w key)
