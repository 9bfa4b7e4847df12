-- What a memory that holds a traffic answers: the estimate of every key, between the two figures, and the widest level.
use mathlib.Core.Path.{◌≡◌, refl, sym, ap, ◌∙◌}
use mathlib.Core.Bool.{true}
use mathlib.Core.List.{List}
use Prim.Native.Nat.{ℕ, zero, suc, ◌*◌, ◌/◌, ◌^◌, ◌≤◌, ◌<◌}
use native.Mathlib.Nat.{le_antisymm, le-div_iff_mul-le}
use native.Mathlib.Omega.{arith}
use borrow.Author.Tests.{eq-eqb, le-leb}
use lib.ListN.{length}
use lib.Pow.{pow_pos, shl-shr}
use Rattle.group.specs.declared.Group.{Group}
use Rattle.group.specs.Results.{Reading}
use Rattle.answer.specs.Answers.{accepted, answer_of}
use Rattle.group_block.specs.Block.{cap}
use Rattle.hash.specs.Hash.{basis}
use Rattle.group.specs.Group.{read, widest_of}
use Rattle.group_totals.proofs.Groups.{group_of, widest_status_lem, widest_most, widest_cause, read_status_lem, read_level, read_value_lem, wider}
use Rattle.geometry.specs.Geometry.{valid_depth, valid_width, stride, size}
use Rattle.answer.specs.Order.{first_of, earliest}
use Rattle.geometry.specs.Checks.{bad_shape, bad_key}
use Rattle.meter_memory.specs.Rows.{of_rows, of_groups, least, largest}
use Rattle.meter_keys.specs.Keys.{key_slot}
use Rattle.meter_row.specs.Row.{read_row, level_status, group_level, widest_status, widest_row}
use Rattle.geometry.proofs.Widths.{depth_in, slot_in, group_in}
use Rattle.meter.specs.Meter.{row_of, read_status, read_value, estimated, row_status, row_level, widest}
use Rattle.meter.proofs.Calls.{call_key, estimated_good, widest_good}
use Rattle.meter_keys.proofs.Landing.{key_in}
use Rattle.traffic.specs.Traffic.{Pair, block_of, block_total, level_up_to, level, lower, landing_total, upper}
use Rattle.traffic.proofs.Holds.{Holds}
use Rattle.traffic.specs.Claim.{Between}
use Rattle.traffic.proofs.Totals.{key_le, wider_le, overflow_some, some_overflow, level_least, level_cause}
use Rattle.traffic.proofs.Gather.{rows_are, none_earliest, largest_le, le_largest, le_least, least_le, le_least_below}

pub good_shape : (d w n : ℕ) → valid_depth d ≡ true → valid_width w ≡ true → n ≡ size d w → bad_shape d w n ≡ 0
unfolding first_of
good_shape d w n vd vw e = rw (vd, vw, eq-eqb n (size d w) e)

pub good_key : (n : ℕ) → 1 ≤ n → n ≤ 64 → bad_key n ≡ 0
good_key n p q = rw (le-leb 1 n p, le-leb n 64 q)

module _ (d w : ℕ) (vd : valid_depth d ≡ true) (vw : valid_width w ≡ true) (memory : List ℕ) (ps : List Pair) (holds : Holds d w memory ps) where
  row_level_lem : (r : ℕ) → r < d → (g : ℕ) → g < w / 8 → group_level w (row_of w memory r) g ≡ (widest_of (group_of (block_total w r ps) g).merge).value
  unfolding group_level
  row_level_lem r p g q = ap (λ (x : Group). (widest_of x.merge).value) (holds.groups r g p q)

  -- the widest level of each group is at most L, and of some group it is L
  group_le : (r g : ℕ) → r < d → g < w / 8 → (widest_of (group_of (block_total w r ps) g).merge).value ≤ level d w ps
  unfolding level
  group_le r g p q = go (widest_of (group_of (block_total w r ps) g).merge).value refl
    where
      go : (n : ℕ) → (widest_of (group_of (block_total w r ps) g).merge).value ≡ n → n ≤ level_up_to d w ps 3
      go zero e = omega arith
      go (suc j) e =
          let c = widest_cause (block_total w r ps) g j w (omega (arith, group_in w g vw q)) e in
          level_least d w ps 3 j (omega (arith, widest_most (block_total w r ps) g))
          (some_overflow d w ps j
          (record {
            row = r;
            index = c.index;
            row_in = p;
            index_in = (le-div_iff_mul-le {k = 2 ^ j} {x = suc c.index} {y = w} (pow_pos j)).1 (omega (arith, c.inside));
            large = c.large;
          }))

  rows_le : (r : ℕ) → r < d → row_level w r (row_of w memory r) ≤ level d w ps
  unfolding widest_row
  rows_le r p =
      largest_le (group_level w (row_of w memory r)) (level d w ps) (w / 8) 0
      (λ g h q. rw (row_level_lem r p g (omega arith)) (group_le r g p (omega arith)))

  le_rows : (n : ℕ) → level d w ps ≡ n → n ≤ largest (of_groups (λ r. row_level w r (row_of w memory r)) d 0)
  unfolding level widest_row
  le_rows zero e = omega arith
  le_rows (suc j) e =
      let c = level_cause d w ps 3 j e in
      let o = overflow_some d w ps j c.1 in
      let r = o.row in
      let s = o.index * 2 ^ j in
      let whole : suc o.index * 2 ^ j ≤ w = (le-div_iff_mul-le {k = 2 ^ j} {x = suc o.index} {y = w} (pow_pos j)).0 o.index_in in
      let g : s / 8 < w / 8 = slot_in w s vw (omega (arith, whole, pow_pos j)) in
      let wide = wider (block_total w r ps) s j c.0 (rw (shl-shr o.index j) o.large) in
      let in_row = le_largest (group_level w (row_of w memory r)) (w / 8) 0 (s / 8) (omega arith) (omega arith) in
      let in_rows = le_largest (λ r. row_level w r (row_of w memory r)) d 0 r (omega arith) (omega (arith, o.row_in)) in
      omega (arith, wide, row_level_lem r o.row_in (s / 8) g, in_row, in_rows)

  level_none : (r : ℕ) → r < d → row_status w r (row_of w memory r) ≡ 0
  unfolding widest_status level_status
  level_none r p = none_earliest (level_status w (row_of w memory r)) (w / 8) 0
      (λ g h q. ap (λ (x : Group). (widest_of x.merge).status) (holds.groups r g p (omega arith)) ∙ widest_status_lem (block_total w r ps) g)

  shape_is : bad_shape d w (length memory) ≡ 0
  shape_is = good_shape d w (length memory) vd vw holds.long

  pub widest_holds : widest d w memory ≡ accepted (level d w ps)
  unfolding answer_of
  widest_holds =
      let s : earliest (of_rows (row_status w) (stride w) d 0 memory) ≡ 0 =
      rw (rows_are (row_status w) d w memory) (none_earliest (λ r. row_status w r (row_of w memory r)) d 0 (λ r h q. level_none r (omega arith))) in
      let v : largest (of_rows (row_level w) (stride w) d 0 memory) ≡ level d w ps =
      rw (rows_are (row_level w) d w memory)
      (le_antisymm (largest_le (λ r. row_level w r (row_of w memory r)) (level d w ps) d 0 (λ r h q. rows_le r (omega arith))) (le_rows (level d w ps) refl)) in
      sym (widest_good d w memory shape_is) ∙ rw (s, v)

  -- estimates
  module _ (key : List ℕ) where
    module _ (r : ℕ) (p : r < d) where
      slot : ℕ
      slot = key_slot basis w key r

      group : slot / 8 < w / 8
      unfolding slot
      group = slot_in w (key_slot basis w key r) vw (key_in w key r vw)

      abbrev there : Group
      there = group_of (block_total w r ps) (slot / 8)

      row_is : read_row basis w key r (row_of w memory r) ≡ read there slot
      unfolding read_row slot
      row_is = ap (λ (x : Group). read x slot) (holds.groups r (slot / 8) p group)

      status_none : read_status w key r (row_of w memory r) ≡ 0
      unfolding read_status
      status_none = ap (λ (x : Reading). x.status) row_is ∙ read_status_lem (block_total w r ps) (slot / 8) (holds.fits r (slot / 8) p group) slot

      -- the value is a block's total
      value_is : read_value w key r (row_of w memory r) ≡ block_total w r ps (read there slot).level (slot / 2 ^ (read there slot).level)
      unfolding read_value
      value_is = ap (λ (x : Reading). x.value) row_is ∙ read_value_lem (block_total w r ps) (slot / 8) (holds.fits r (slot / 8) p group) slot refl

      value_low : lower ps key ≤ read_value w key r (row_of w memory r)
      unfolding lower slot
      value_low = omega (arith, value_is, key_le w r ps key (read there slot).level)

      value_high : read_value w key r (row_of w memory r) ≤ landing_total w (level d w ps) ps key r
      unfolding landing_total block_of slot
      value_high =
          let l = read_level (block_total w r ps) (slot / 8) (holds.fits r (slot / 8) p group) slot in
          rw value_is (wider_le w r ps slot (read there slot).level (level d w ps) (omega (arith, l, group_le r (slot / 8) p group)))

      -- and so fits in 64 bits
      value_fits : read_value w key r (row_of w memory r) < cap 3
      value_fits =
          let l = read_level (block_total w r ps) (slot / 8) (holds.fits r (slot / 8) p group) slot in
          let m = widest_most (block_total w r ps) (slot / 8) in
          let e = wider_le w r ps slot (read there slot).level 3 (omega (arith, l, m)) in
          rw value_is (omega (arith, e, holds.fits r (slot / 8) p group))

    pub estimate_fits : least (of_rows (read_value w key) (stride w) d 0 memory) < cap 3
    estimate_fits =
        let f : ℕ → ℕ = λ r. read_value w key r (row_of w memory r) in
        let some = (depth_in d vd).0 in
        rw (rows_are (read_value w key) d w memory) (omega (arith, least_le f d 0 0 (omega arith) (omega arith), value_fits 0 (omega arith)))

    pub estimate_holds : bad_key (length key) ≡ 0 → estimated d w memory key ≡ accepted (least (of_rows (read_value w key) (stride w) d 0 memory))
    unfolding answer_of
    estimate_holds k =
        let s : earliest (of_rows (read_status w key) (stride w) d 0 memory) ≡ 0 =
        rw (rows_are (read_status w key) d w memory) (none_earliest (λ r. read_status w key r (row_of w memory r)) d 0 (λ r h q. status_none r (omega arith))) in
        sym (estimated_good d w memory key (sym (call_key d w memory key shape_is) ∙ k)) ∙ rw s

    pub estimate_between : Between d w ps key (least (of_rows (read_value w key) (stride w) d 0 memory))
    unfolding upper
    estimate_between =
        let f : ℕ → ℕ = λ r. read_value w key r (row_of w memory r) in
        rw (rows_are (read_value w key) d w memory) (
          le_least f (lower ps key) d 0 (depth_in d vd).0 (λ r h q. value_low r (omega arith)),
          le_least_below (landing_total w (level d w ps) ps key) (least (of_groups f d 0)) d (depth_in d vd).0
              (λ r q. omega (arith, least_le f d 0 r (omega arith) (omega arith), value_high r q)),
        )
