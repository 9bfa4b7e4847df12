-- What an update answers by its rows, and what an estimate answers after it: the least of the counters' values.
use mathlib.Core.Path.{◌≡◌, refl, sym, ap, ◌∙◌}
use mathlib.Core.List.{List}
use Prim.Native.Nat.{ℕ, zero, suc, ◌+◌, ◌/◌, ◌<◌}
use native.Mathlib.Nat.{zero-add}
use lib.ListN.{length, drop}
use Rattle.answer.specs.declared.Answer.{Answer}
use Rattle.answer.specs.Answers.{answer_of, finish}
use Rattle.answer.proofs.Answers.{status_is}
use Rattle.answer.specs.Order.{earlier, earliest}
use Rattle.group.specs.declared.Group.{Group}
use Rattle.group.specs.Group.{read}
use Rattle.group.proofs.Outcomes.{read_added}
use Rattle.hash.specs.Hash.{basis}
use Rattle.geometry.specs.Geometry.{stride}
use Rattle.meter_memory.specs.Rows.{row_of, of_rows, group_at, least}
use Rattle.meter_keys.specs.Keys.{key_slot}
use Rattle.meter_row.specs.Row.{added_in, update_status, read_row}
use Rattle.meter_memory.proofs.Agree.{reads_same}
use Rattle.geometry.proofs.Widths.{shape_good}
use Rattle.meter.specs.Meter.{bad_call, updated, read_status, read_value, estimated}
use Rattle.meter.proofs.Calls.{updated_rows, estimated_good}
use Rattle.meter.proofs.Slots.{left_value}
use Rattle.meter.proofs.Memory.{Updated, update_accepted, update_group}
use Rattle.meter_memory.proofs.Written.{rows_long}

zeros : (s n r : ℕ) (memory : List ℕ) → earliest (of_rows (λ (r : ℕ) (row : List ℕ). 0) s n r memory) ≡ 0
unfolding of_rows earliest earlier
zeros s zero r memory = refl
zeros s (suc n) r memory = zeros s n (r + 1) (drop s memory)

-- an update's status by that of its rows, and its answer by its status
pub rows_status : (d w : ℕ) (memory key : List ℕ) (amount s : ℕ) → bad_call d w memory key ≡ 0
    → s ≡ earliest (of_rows (update_status basis w key amount) (stride w) d 0 memory) → s ≡ (updated d w memory key amount).answer.status
rows_status d w memory key amount s b e = sym (status_is s 0) ∙ ap (λ (a : Answer). a.status) (updated_rows d w memory key amount b s _ e refl).0

pub answer_by_status : (d w : ℕ) (memory key : List ℕ) (amount : ℕ) → answer_of (updated d w memory key amount).answer.status 0 ≡ (updated d w memory key amount).answer
unfolding updated finish
answer_by_status d w memory key amount = ap (λ (s : ℕ). answer_of s 0) (status_is _ 0)

pub value_is : (v : ℕ) → (answer_of 0 v).value ≡ v
unfolding answer_of
value_is v = refl

-- the same tests of another memory of that length
pub call_same : (d w : ℕ) (memory after key : List ℕ) → length after ≡ length memory → bad_call d w memory key ≡ 0 → bad_call d w after key ≡ 0
unfolding bad_call
call_same d w memory after key e b = rw e b

module _ (d w : ℕ) (memory key : List ℕ) (amount : ℕ) (e : (updated d w memory key amount).answer.status ≡ 0) where
  accepted : Updated d w memory key amount (updated d w memory key amount).memory
  accepted = update_accepted d w memory key amount e

  -- the group of the key's slot in a row that is left
  row_group : (r : ℕ) → r < d
      → group_at w (row_of w (updated d w memory key amount).memory r) (key_slot basis w key r / 8) ≡ (added_in w (row_of w memory r) (key_slot basis w key r) amount).group
  unfolding added_in
  row_group r h =
      let p = (shape_good d w (length memory) accepted.good).1 in
      ap (λ (x : List ℕ). group_at w x (key_slot basis w key r / 8)) (accepted.row r h)
      ∙ update_group w p.0 key amount r (row_of w memory r) (rows_long d w memory p r h)

  row_status : (r : ℕ) → r < d → read_status w key r (row_of w (updated d w memory key amount).memory r) ≡ 0
  unfolding read_status read_row added_in
  row_status r h =
      let slot = key_slot basis w key r in
      ap (λ (g : Group). (read g slot).status) (row_group r h) ∙ read_added (group_at w (row_of w memory r) (slot / 8)) slot amount (accepted.taken r h)

  statuses : earliest (of_rows (read_status w key) (stride w) d 0 (updated d w memory key amount).memory) ≡ 0
  unfolding row_of
  statuses =
      let after = (updated d w memory key amount).memory in
      ap earliest (reads_same (stride w) (read_status w key) (λ (r : ℕ) (row : List ℕ). 0) d 0 after after (λ k h. rw (zero-add k) (row_status k h)))
      ∙ zeros (stride w) d 0 after

  values : of_rows (left_value w key amount) (stride w) d 0 memory ≡ of_rows (read_value w key) (stride w) d 0 (updated d w memory key amount).memory
  unfolding row_of read_value read_row
  values =
      reads_same (stride w) (left_value w key amount) (read_value w key) d 0 memory (updated d w memory key amount).memory
      (λ k h. rw (zero-add k) (ap (λ (g : Group). (read g (key_slot basis w key k)).value) (sym (row_group k h))))

  -- the least value that is left is the estimate of the memory as a caller has it
  pub value_left : (m : List ℕ) (v : ℕ) → bad_call d w memory key ≡ 0 → m ≡ (updated d w memory key amount).memory
      → v ≡ least (of_rows (left_value w key amount) (stride w) d 0 memory) → v ≡ (estimated d w m key).value
  unfolding answer_of
  value_left m v b is h =
      let after = (updated d w memory key amount).memory in
      let least-read = least (of_rows (read_value w key) (stride w) d 0 after) in
      rw is
      (h
      ∙ ap least values
      ∙ ap (λ (x : Answer). x.value)
      (ap (λ (s : ℕ). answer_of s least-read) (sym statuses) ∙ estimated_good d w after key (call_same d w memory after key accepted.long b)))
