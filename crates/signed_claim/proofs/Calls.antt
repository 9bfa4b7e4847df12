-- What an accepted call of a signed meter leaves, group by group.
use mathlib.Core.Path.{◌≡◌, sym, ap, ◌∙◌}
use mathlib.Core.Bool.{Bool}
use mathlib.Core.List.{List, [], ◌∷◌}
use Prim.Native.Nat.{ℕ, ◌/◌, ◌<◌}
use lib.IntN.{ℤ}
use lib.ListN.{length}
use Rattle.answer.specs.Answers.{finish}
use Rattle.answer.specs.Order.{first_of, earliest}
use Rattle.answer.proofs.Answers.{status_is, left_after}
use Rattle.answer.proofs.Order.{first_one, none_first}
use Rattle.hash.specs.Hash.{basis}
use Rattle.geometry.specs.Geometry.{stride, RowsIn}
use Rattle.geometry.specs.Checks.{bad_length}
use Rattle.geometry.proofs.Widths.{slot_in}
use Rattle.group.specs.Results.{Outcome}
use Rattle.meter_memory.specs.Rows.{row_of, map_rows, of_rows, group_at}
use Rattle.meter_memory.specs.Pairs.{paired_at}
use Rattle.meter_memory.proofs.Groups.{eight_at}
use Rattle.meter_memory.proofs.Written.{row_none, rows_after, length_after, rows_long, in_row, full_row, slot_length, slot_group, slot_other, pairs_taken, pairs_long, pairs_group}
use Rattle.meter_keys.specs.Keys.{key_slot}
use Rattle.meter_keys.proofs.Landing.{key_in}
use Rattle.signed_group.specs.Group.{combined}
use Rattle.signed_group.proofs.Outcomes.{added_eight, combined_eight}
use Rattle.signed_row.specs.Row.{added_in, row_amount, update_status, update_row, source_status, source_combined}
use Rattle.signed.specs.Signed.{bad_shape, bad_call, updated, combined_meters}

-- a call that ends by `finish` and is accepted
pub finish_taken : (s v : ℕ) (after before : List ℕ) → (finish s v after before).answer.status ≡ 0 → (s ≡ 0) × ((finish s v after before).memory ≡ after)
unfolding finish
finish_taken s v after before e =
    let z : s ≡ 0 = sym (status_is s v) ∙ e in
    (z, left_after s after before z)

-- an accepted update writes the key's group in each row and no other
module _ (d w : ℕ) (memory : List ℕ) (p : RowsIn d w (length memory)) (key : List ℕ) (amount : ℤ) where
  abbrev slot : ℕ → ℕ
  slot r = key_slot basis w key r

  abbrev outcome : ℕ → List ℕ → Outcome
  outcome r row = added_in w row (slot r) (row_amount basis key amount r)

  pub record Updated (after : List ℕ) : Type 0 where
    pub long : length after ≡ length memory
    pub taken : (r : ℕ) → r < d → (outcome r (row_of w memory r)).status ≡ 0
    pub at : (r : ℕ) → r < d → group_at w (row_of w after r) (slot r / 8) ≡ (outcome r (row_of w memory r)).group
    pub other : (r g : ℕ) → r < d → g < w / 8 → (g ≡ slot r / 8 → ⊥) → group_at w (row_of w after r) g ≡ group_at w (row_of w memory r) g

  eight : (r : ℕ) (row : List ℕ) → length row ≡ stride w → length (outcome r row).group.counts ≡ 8
  unfolding added_in
  eight r row l =
      added_eight (group_at w row (slot r / 8)) (slot r) (row_amount basis key amount r)
      (eight_at w (slot r / 8) row (in_row w p.0 (slot r / 8) row l (slot_in w (slot r) p.0 (key_in w key r p.0))).0 (full_row w p.0 row l))

  keeps : (r : ℕ) (row : List ℕ) → length row ≡ stride w → length (update_row basis w key amount r row) ≡ stride w
  unfolding update_row
  keeps r row l = slot_length w p.0 row l (slot r) (key_in w key r p.0) (outcome r row).group (eight r row l)

  row_is : (r : ℕ) → r < d → row_of w (map_rows (update_row basis w key amount) (stride w) d 0 memory) r ≡ update_row basis w key amount r (row_of w memory r)
  row_is r h = rows_after (update_row basis w key amount) d w memory p keeps r h

  written : earliest (of_rows (update_status basis w key amount) (stride w) d 0 memory) ≡ 0 → Updated (map_rows (update_row basis w key amount) (stride w) d 0 memory)
  unfolding update_row update_status
  written e =
      record {
        long = length_after (update_row basis w key amount) d w memory p keeps;
        taken = λ r h. row_none (update_status basis w key amount) d w memory e r h;
        at = λ r h.
            let row = row_of w memory r in
            let l = rows_long d w memory p r h in
            ap (λ (x : List ℕ). group_at w x (slot r / 8)) (row_is r h)
            ∙ slot_group w p.0 row l (slot r) (key_in w key r p.0) (outcome r row).group (eight r row l);
        other = λ r g h k n.
            let row = row_of w memory r in
            let l = rows_long d w memory p r h in
            ap (λ (x : List ℕ). group_at w x g) (row_is r h)
            ∙ slot_other w p.0 row l (slot r) (key_in w key r p.0) (outcome r row).group (eight r row l) g k n;
      }

  pub update_accepted : (updated d w memory key amount).answer.status ≡ 0 → Updated (updated d w memory key amount).memory
  unfolding updated
  update_accepted e =
      let rows = earliest (of_rows (update_status basis w key amount) (stride w) d 0 memory) in
      let f = finish_taken (first_of (bad_call d w memory key ∷ rows ∷ [])) 0 (map_rows (update_row basis w key amount) (stride w) d 0 memory) memory e in
      rw f.1 (written (sym (first_one rows) ∙ (none_first (bad_call d w memory key) (rows ∷ []) f.0).1))

-- an accepted source is combined group by group
module _ (minus : Bool) (d w : ℕ) (memory source : List ℕ) (p : RowsIn d w (length memory)) where
  abbrev pair : ℕ → ℕ → Outcome
  pair r g = combined minus (group_at w (row_of w memory r) g) (group_at w (row_of w source r) g)

  pub record Combined (after : List ℕ) : Type 0 where
    pub long : length after ≡ length memory
    pub taken : (r g : ℕ) → r < d → g < w / 8 → (pair r g).status ≡ 0
    pub at : (r g : ℕ) → r < d → g < w / 8 → group_at w (row_of w after r) g ≡ (pair r g).group

  merged : earliest (of_rows (source_status minus w source) (stride w) d 0 memory) ≡ 0 → Combined (map_rows (source_combined minus w source) (stride w) d 0 memory)
  unfolding paired_at
  merged e =
      record {
        long = pairs_long w p.0 (combined minus) (combined_eight minus) d memory source p e;
        taken = λ r g h k. pairs_taken w p.0 (combined minus) (combined_eight minus) d memory source p e r g h k;
        at = λ r g h k. pairs_group w p.0 (combined minus) (combined_eight minus) d memory source p e r g h k;
      }

  pub combine_accepted : (combined_meters minus d w memory source).answer.status ≡ 0 → Combined (combined_meters minus d w memory source).memory
  unfolding combined_meters
  combine_accepted e =
      let rows = earliest (of_rows (source_status minus w source) (stride w) d 0 memory) in
      let same = bad_length d w (length source) in
      let f = finish_taken (first_of (bad_shape d w (length memory) ∷ same ∷ rows ∷ [])) 0 (map_rows (source_combined minus w source) (stride w) d 0 memory) memory e in
      rw f.1 (merged (sym (first_one rows) ∙ (none_first same (rows ∷ []) (none_first (bad_shape d w (length memory)) (same ∷ rows ∷ []) f.0).1).1))
