-- What a memory that holds a traffic answers: its counters, the estimate of every key, and a copy of it taken away.
use mathlib.Core.Path.{◌≡◌, refl, sym, ap, ap₂, ◌∙◌}
use mathlib.Core.Bool.{true}
use mathlib.Core.List.{List, [], ◌∷◌}
use Prim.Native.Nat.{ℕ, zero, suc, ◌+◌, ◌*◌, ◌/◌, ◌%◌, ◌^◌, ◌<◌}
use native.Mathlib.Nat.{zero-mul}
use native.Mathlib.Omega.{arith}
use borrow.Author.Tests.{eq-eqb}
use lib.IntN.{ℤ, pos}
use lib.ListN.{length, take, drop}
use Rattle.answer.specs.Answers.{finish}
use Rattle.answer.specs.Order.{first_of, earliest}
use Rattle.answer.proofs.Answers.{status_is}
use Rattle.answer.proofs.Order.{first_skip, first_one}
use Rattle.hash.specs.Hash.{basis}
use Rattle.geometry.specs.Geometry.{valid_depth, valid_width, stride, size}
use Rattle.geometry.specs.Checks.{bad_length, bad_key}
use Rattle.geometry.proofs.Widths.{depth_in, slot_in}
use Rattle.group.specs.declared.Group.{Group}
use Rattle.meter_memory.specs.Rows.{row_of, of_rows, group_at}
use Rattle.meter_memory.specs.Pairs.{paired_at, pair_status, pairs_status, row_status_by}
use Rattle.meter_memory.proofs.Lists.{drop_row}
use Rattle.meter_keys.specs.Keys.{key_slot, key_sign}
use Rattle.meter_keys.proofs.Landing.{key_in}
use Rattle.traffic.proofs.Gather.{rows_are, none_earliest}
use Rattle.group_layout.specs.Layout.{layout, level_of}
use Rattle.signed_number.specs.Number.{times_sign, integer_of, signed_of}
use Rattle.signed_number.proofs.Integers.{integer_of_lem}
use Rattle.signed_median.specs.Median.{median}
use Rattle.signed_group.specs.Results.{Reading}
use Rattle.signed_group.specs.Group.{combined}
use Rattle.signed_totals.proofs.Groups as group
use Rattle.signed_row.specs.Row.{read_row, read_status, row_figure, source_status}
use Rattle.signed.specs.Signed.{bad_shape, bad_call, estimated, signed_answer, combined_meters}
use Rattle.signed_claim.specs.Traffic.{Pair, block_total}
use Rattle.signed_claim.specs.Claim.{up_to}
use Rattle.signed_claim.proofs.Totals.{totals_itself}
use Rattle.signed_claim.proofs.Holds.{Holds, counter_of}
use Rattle.signed_claim.proofs.Calls.{combine_accepted}
use Rattle.signed_claim.proofs.Steps.{combine_step}

-- what is read of rows, by the rows' numbers
by_number : (f : ℕ → List ℕ → ℤ) (g : ℕ → ℤ) (s n r : ℕ) (memory : List ℕ) → ((k : ℕ) → k < r + n → f k (take s (drop (k * s) memory)) ≡ g k)
    → of_rows f s n r (drop (r * s) memory) ≡ up_to g r n
unfolding of_rows up_to
by_number f g s zero r memory h = refl
by_number f g s (suc n) r memory h =
    let next : r + 1 ≡ suc r = omega arith in
    rw (drop_row memory r s, h r (omega arith), ← next) (ap (λ (xs : List ℤ). g r ∷ xs) (by_number f g s n (r + 1) memory (λ k p. h k (omega arith))))

rows_give : (f : ℕ → List ℕ → ℤ) (g : ℕ → ℤ) (d w : ℕ) (memory : List ℕ) → ((r : ℕ) → r < d → f r (row_of w memory r) ≡ g r) → of_rows f (stride w) d 0 memory ≡ up_to g 0 d
unfolding row_of
rows_give f g d w memory h = rw (zero-mul (stride w)) at (by_number f g (stride w) d 0 memory (λ k p. h k (omega arith)))

module _ (d w : ℕ) (vd : valid_depth d ≡ true) (odd : d % 2 ≡ 1) (vw : valid_width w ≡ true) (memory : List ℕ) (ps : List Pair) (holds : Holds d w memory ps) where
  -- the total of the block that a slot's counter is of
  abbrev total_of : ℕ → ℕ → ℤ
  total_of r s = block_total w r ps (counter_of w memory r s).level (s / 2 ^ (counter_of w memory r s).level)

  pub counter_is : (r s : ℕ) → r < d → s < w → counter_of w memory r s ≡ record { status = 0; value = signed_of (total_of r s); level = (counter_of w memory r s).level }
  counter_is r s p q = group.read_is (holds.groups r (s / 8) p (slot_in w s vw q)) s refl

  pub counters : (r s : ℕ) → r < d → s < w → ((counter_of w memory r s).status ≡ 0) × (integer_of (counter_of w memory r s).value ≡ total_of r s)
  counters r s p q =
      let e = counter_is r s p q in
      (ap (λ (x : Reading). x.status) e, ap (λ (x : Reading). integer_of x.value) e ∙ integer_of_lem (total_of r s))

  good_shape : bad_shape d w (length memory) ≡ 0
  unfolding first_of
  good_shape = rw (vd, vw, eq-eqb (d % 2) 1 odd, eq-eqb (length memory) (size d w) holds.long)

  -- estimates
  module _ (key : List ℕ) (k : bad_key (length key) ≡ 0) where
    good_call : bad_call d w memory key ≡ 0
    unfolding bad_call first_of
    good_call = rw (vd, vw, eq-eqb (d % 2) 1 odd, eq-eqb (length memory) (size d w) holds.long, k)

    abbrev figure : ℕ → ℤ
    figure r = times_sign (key_sign basis key r) (total_of r (key_slot basis w key r))

    statuses : earliest (of_rows (read_status basis w key) (stride w) d 0 memory) ≡ 0
    unfolding read_status read_row
    statuses =
        rw (rows_are (read_status basis w key) d w memory)
        (none_earliest (λ r. read_status basis w key r (row_of w memory r)) d 0
        (λ r h p. (counters r (key_slot basis w key r) (omega arith) (key_in w key r vw)).0))

    figures : of_rows (row_figure basis w key) (stride w) d 0 memory ≡ up_to figure 0 d
    unfolding row_figure read_row
    figures =
        rows_give (row_figure basis w key) figure d w memory
        (λ r p. ap (times_sign (key_sign basis key r)) (counters r (key_slot basis w key r) p (key_in w key r vw)).1)

    pub estimate_is : estimated d w memory key ≡ signed_answer 0 (median (up_to (λ r. times_sign (key_sign basis key r) (total_of r (key_slot basis w key r))) 0 d))
    unfolding estimated
    estimate_is =
        let rows = earliest (of_rows (read_status basis w key) (stride w) d 0 memory) in
        let none : first_of (bad_call d w memory key ∷ rows ∷ []) ≡ 0 = first_skip (bad_call d w memory key) (rows ∷ []) good_call ∙ first_one rows ∙ statuses in
        rw (none, figures)

  -- a copy taken away
  abbrev after : List ℕ
  after = (combined_meters true d w memory memory).memory

  copy_statuses : earliest (of_rows (source_status true w memory) (stride w) d 0 memory) ≡ 0
  unfolding row_status_by pairs_status pair_status paired_at
  copy_statuses =
      rw (rows_are (source_status true w memory) d w memory)
      (none_earliest (λ r. source_status true w memory r (row_of w memory r)) d 0
      (λ r h p.
      none_earliest (pair_status (combined true) w (row_of w memory r) (row_of w memory r)) (w / 8) 0
      (λ g h q. (group.itself (holds.groups r g (omega arith) (omega arith))).0)))

  pub copy_taken : (combined_meters true d w memory memory).answer.status ≡ 0
  unfolding combined_meters finish
  copy_taken =
      let rows = earliest (of_rows (source_status true w memory) (stride w) d 0 memory) in
      let same : bad_length d w (length memory) ≡ 0 = rw (eq-eqb (length memory) (size d w) holds.long) in
      status_is _ 0
      ∙ first_skip (bad_shape d w (length memory)) (bad_length d w (length memory) ∷ rows ∷ []) good_shape
      ∙ first_skip (bad_length d w (length memory)) (rows ∷ []) same
      ∙ first_one rows
      ∙ copy_statuses

  -- leaves zeros, and the layout as it was
  pub copy_left : (r s : ℕ) → r < d → s < w
      → counter_of w (combined_meters true d w memory memory).memory r s ≡ record { status = 0; value = signed_of (pos 0); level = (counter_of w memory r s).level }
  copy_left r s p q =
      let g = slot_in w s vw q in
      let before = holds.groups r (s / 8) p g in
      let now = (combine_step d w vd vw memory ps holds true memory ps holds copy_taken).0.groups r (s / 8) p g in
      let c = combine_accepted true d w memory memory (vw, (depth_in d vd).1, holds.long) copy_taken in
      let merge : (group_at w (row_of w after r) (s / 8)).merge ≡ (group_at w (row_of w memory r) (s / 8)).merge =
      ap (λ (x : Group). x.merge) (c.at r (s / 8) p g) ∙ (group.itself before).1 in
      let level : (counter_of w after r s).level ≡ (counter_of w memory r s).level =
      group.level_is now s ∙ ap (λ (m : ℕ). level_of (layout 3 m) (s % 8)) merge ∙ sym (group.level_is before s) in
      group.read_is now s refl
      ∙ ap₂ (λ (v : ℤ) (n : ℕ). record { status = 0; value = signed_of v; level = n }) (totals_itself w r ps (counter_of w after r s).level (s / 2 ^ (counter_of w after r s).level)) level
