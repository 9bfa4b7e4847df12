-- What an accepted call leaves, group by group, and that memories stay valid.
use mathlib.Core.Path.{◌≡◌, refl, sym, ◌∙◌}
use mathlib.Core.Bool.{Bool, true, false}
use mathlib.Core.List.{List, [], ◌∷◌}
use Prim.Native.Nat.{ℕ, zero, suc, ◌+◌, ◌*◌, ◌/◌, ◌<◌}
use native.Mathlib.Decide.{ℕ_discrete}
use native.Mathlib.Omega.{arith}
use borrow.Author.Tests.{eqb-true}
use lib.Dec.{eqb}
use lib.ListN.{length, get_or, drop, replicate, length-replicate}
use lib.Seq.{get_or-take, get_or-drop}
use Rattle.answer.proofs.Answers.{status_is}
use Rattle.group_side.proofs.Unions.{unmerged_valid}
use Rattle.hash.specs.Hash.{basis}
use Rattle.group.specs.Group.{united_groups}
use Rattle.group.proofs.Outcomes.{added_eight, added_valid, united_eight, united_valid}
use Rattle.geometry.specs.Geometry.{valid_width, stride, size}
use Rattle.answer.specs.Answers.{finish, leaves}
use Rattle.answer.specs.Order.{first_of, earliest, unless}
use Rattle.geometry.specs.Checks.{bad_length, bad_shape}
use Rattle.meter_memory.specs.Pairs.{paired_at}
use Rattle.meter_memory.specs.Rows.{of_rows, group_at}
use Rattle.meter_keys.specs.Keys.{key_slot}
use Rattle.meter_row.specs.Row.{added_in, update_status, update_row}
use Rattle.meter_union.specs.Union.{united_at, unite_row}
use Rattle.answer.proofs.Order.{first_one, none_first}
use Rattle.geometry.proofs.Widths.{shape_good, slot_in, group_in}
use Rattle.meter_memory.proofs.Groups.{eight_at}
use Rattle.meter_memory.proofs.Written.{row_none, rows_after, length_after, rows_long, in_row, full_row, slot_length, slot_group, slot_other, pair_group, pairs_taken, pairs_long, pairs_row}
use Rattle.meter_keys.proofs.Landing.{key_in}
use Rattle.meter.specs.Meter.{bad_call, row_of, cleared, updated, source_status, united}
use Rattle.meter.specs.Valid.{Valid}
use Rattle.meter.proofs.Calls.{call_good, cleared_good, updated_good, united_good}

-- an update keeps a row's length, writes the key's group and no other
module _ (w : ℕ) (v : valid_width w ≡ true) (key : List ℕ) (amount r : ℕ) (row : List ℕ) (l : length row ≡ stride w) where
  eight : length (added_in w row (key_slot basis w key r) amount).group.counts ≡ 8
  unfolding added_in
  eight =
      let slot = key_slot basis w key r in
      added_eight (group_at w row (slot / 8)) slot amount (eight_at w (slot / 8) row (in_row w v (slot / 8) row l (slot_in w slot v (key_in w key r v))).0 (full_row w v row l))

  update_length : length (update_row basis w key amount r row) ≡ stride w
  unfolding update_row
  update_length = slot_length w v row l (key_slot basis w key r) (key_in w key r v) (added_in w row (key_slot basis w key r) amount).group eight

  pub update_group : group_at w (update_row basis w key amount r row) (key_slot basis w key r / 8) ≡ (added_in w row (key_slot basis w key r) amount).group
  unfolding update_row
  update_group = slot_group w v row l (key_slot basis w key r) (key_in w key r v) (added_in w row (key_slot basis w key r) amount).group eight

  pub update_other : (g : ℕ) → g < w / 8 → (g ≡ key_slot basis w key r / 8 → ⊥) → group_at w (update_row basis w key amount r row) g ≡ group_at w row g
  unfolding update_row
  update_other = slot_other w v row l (key_slot basis w key r) (key_in w key r v) (added_in w row (key_slot basis w key r) amount).group eight

-- a union writes each group's union
pub unite_group : (w : ℕ) → valid_width w ≡ true → (source row : List ℕ) → length row ≡ stride w → (g : ℕ) → g < w / 8
    → group_at w (unite_row w source row) g ≡ (united_at w source row g).group
unite_group w v source row l g h = pair_group w v united_groups united_eight source row l g h

update_tests : (d w : ℕ) (memory key : List ℕ) (amount : ℕ) → (updated d w memory key amount).answer.status ≡ 0
    → first_of (bad_call d w memory key ∷ earliest (of_rows (update_status basis w key amount) (stride w) d 0 memory) ∷ []) ≡ 0
unfolding updated finish leaves
update_tests d w memory key amount e = sym (status_is _ 0) ∙ e

-- An accepted update: every row is that row's own update, and the memory keeps its length and stays valid.
pub record Updated (d w : ℕ) (memory key : List ℕ) (amount : ℕ) (after : List ℕ) : Type 0 where
  pub good : bad_shape d w (length memory) ≡ 0
  pub taken : (r : ℕ) → r < d → (added_in w (row_of w memory r) (key_slot basis w key r) amount).status ≡ 0
  pub long : length after ≡ length memory
  pub row : (r : ℕ) → r < d → row_of w after r ≡ update_row basis w key amount r (row_of w memory r)

pub update_accepted : (d w : ℕ) (memory key : List ℕ) (amount : ℕ) → (updated d w memory key amount).answer.status ≡ 0
    → Updated d w memory key amount (updated d w memory key amount).memory
unfolding update_status
update_accepted d w memory key amount e =
    let t = none_first (bad_call d w memory key) (earliest (of_rows (update_status basis w key amount) (stride w) d 0 memory) ∷ []) (update_tests d w memory key amount e) in
    let rows = sym (first_one (earliest (of_rows (update_status basis w key amount) (stride w) d 0 memory))) ∙ t.1 in
    let shape = call_good d w memory key t.0 in
    let p = (shape_good d w (length memory) shape).1 in
    let after = (updated_good d w memory key amount t.0 rows).1 in
    let keeps : (r : ℕ) (row : List ℕ) → length row ≡ stride w → length (update_row basis w key amount r row) ≡ stride w = update_length w p.0 key amount in
    record {
      good = shape;
      taken = λ r h. row_none (update_status basis w key amount) d w memory rows r h;
      long = rw (← after) (length_after (update_row basis w key amount) d w memory p keeps);
      row = λ r h. rw (← after) (rows_after (update_row basis w key amount) d w memory p keeps r h);
    }

pub update_valid : (d w : ℕ) (memory key : List ℕ) (amount : ℕ) → (updated d w memory key amount).answer.status ≡ 0 → Valid d w memory
    → Valid d w (updated d w memory key amount).memory
unfolding added_in
update_valid d w memory key amount e m =
    let u = update_accepted d w memory key amount e in
    let p = m.rows in
    record {
      some = m.some;
      rows = (p.0, p.1, u.long ∙ p.2);
      merges = λ r g h k.
          let l = rows_long d w memory p r h in
          rw (u.row r h)
          (elim (ℕ_discrete g (key_slot basis w key r / 8)) [
            | yes z ↦ rw (z, update_group w p.0 key amount r (row_of w memory r) l) (added_valid _ _ _ (u.taken r h))
            | no n ↦ rw (update_other w p.0 key amount r (row_of w memory r) l g k n) (m.merges r g h k)
          ]);
    }

-- An accepted union: every row is that row's own union, and the memory keeps its length and stays valid.
pub record United (d w : ℕ) (memory source after : List ℕ) : Type 0 where
  pub good : bad_shape d w (length memory) ≡ 0
  pub same : length source ≡ length memory
  pub taken : (r g : ℕ) → r < d → g < w / 8 → (united_at w (row_of w source r) (row_of w memory r) g).status ≡ 0
  pub long : length after ≡ length memory
  pub row : (r : ℕ) → r < d → row_of w after r ≡ unite_row w (row_of w source r) (row_of w memory r)

unite_tests : (d w : ℕ) (memory source : List ℕ) → (united d w memory source).answer.status ≡ 0
    → first_of (bad_shape d w (length memory) ∷ bad_length d w (length source) ∷ earliest (of_rows (source_status w source) (stride w) d 0 memory) ∷ []) ≡ 0
unfolding united finish leaves
unite_tests d w memory source e = sym (status_is _ 0) ∙ e

length_good : (d w n : ℕ) → bad_length d w n ≡ 0 → n ≡ size d w
length_good d w n = go (eqb n (size d w)) refl
  where
    go : (b : Bool) → eqb n (size d w) ≡ b → unless b 3 ≡ 0 → n ≡ size d w
    go true e z = eqb-true n (size d w) e
    go false e z = absurd (omega arith)

pub unite_accepted : (d w : ℕ) (memory source : List ℕ) → (united d w memory source).answer.status ≡ 0
    → United d w memory source (united d w memory source).memory
unite_accepted d w memory source e =
    let rows = earliest (of_rows (source_status w source) (stride w) d 0 memory) in
    let t = none_first (bad_shape d w (length memory)) (bad_length d w (length source) ∷ rows ∷ []) (unite_tests d w memory source e) in
    let s = none_first (bad_length d w (length source)) (rows ∷ []) t.1 in
    let taken = sym (first_one rows) ∙ s.1 in
    let p = (shape_good d w (length memory) t.0).1 in
    let same : length source ≡ length memory = length_good d w (length source) s.0 ∙ sym p.2 in
    let after = (united_good d w memory source t.0 same taken).1 in
    record {
      good = t.0;
      same = same;
      taken = pairs_taken w p.0 united_groups united_eight d memory source p taken;
      long = rw (← after) (pairs_long w p.0 united_groups united_eight d memory source p taken);
      row = λ r h. rw (← after) (pairs_row w p.0 united_groups united_eight d memory source p taken r h);
    }

pub unite_valid : (d w : ℕ) (memory source : List ℕ) → (united d w memory source).answer.status ≡ 0 → Valid d w memory → Valid d w (united d w memory source).memory
unfolding paired_at
unite_valid d w memory source e m =
    let u = unite_accepted d w memory source e in
    let p = m.rows in
    record {
      some = m.some;
      rows = (p.0, p.1, u.long ∙ p.2);
      merges = λ r g h k.
          rw (u.row r h, unite_group w p.0 (row_of w source r) (row_of w memory r) (rows_long d w memory p r h) g k)
          (united_valid (group_at w (row_of w memory r) g) (group_at w (row_of w source r) g) (u.taken r g h k));
    }

-- A cleared memory is valid: every merge byte is 0.
zero_at : (n i : ℕ) → get_or {A = ℕ} (replicate n 0) i 0 ≡ 0
zero_at zero i = refl
zero_at (suc n) zero = refl
zero_at (suc n) (suc i) = zero_at n i

clear_tests : (d w : ℕ) (memory : List ℕ) → (cleared d w memory).answer.status ≡ 0 → bad_shape d w (length memory) ≡ 0
unfolding cleared finish leaves
clear_tests d w memory e = sym (status_is _ 0) ∙ e

pub clear_valid : (d w : ℕ) (memory : List ℕ) → (cleared d w memory).answer.status ≡ 0 → Valid d w (cleared d w memory).memory
unfolding group_at row_of
clear_valid d w memory e =
    let shape = clear_tests d w memory e in
    let s = shape_good d w (length memory) shape in
    let after = (cleared_good d w memory shape).1 in
    rw (← after)
    (record {
      some = s.0;
      rows = (s.1.0, s.1.1, length-replicate (length memory) 0 ∙ s.1.2);
      merges = λ r g h k.
          rw (
            get_or-take {A = ℕ} (stride w) (drop (r * stride w) (replicate (length memory) 0)) (w + g) 0 (group_in w g s.1.0 k).1,
            get_or-drop {A = ℕ} (r * stride w) (replicate (length memory) 0) (w + g) 0,
            zero_at (length memory) (r * stride w + (w + g)),
          )
          unmerged_valid;
    })
