-- A cleared memory holds no traffic, and an accepted update or union leaves a memory that holds the new traffic.
use mathlib.Core.Path.{◌≡◌, refl, sym, ap, ◌∙◌}
use mathlib.Core.Bool.{true, cond}
use mathlib.Core.List.{List, [], ◌∷◌, ◌++◌}
use Prim.Native.Nat.{ℕ, zero, suc, ◌+◌, ◌-◌, ◌*◌, ◌/◌, ◌^◌, ◌≤◌, ◌<◌}
use native.Mathlib.Nat.{zero-sub, sub-zero, suc-sub-suc}
use native.Mathlib.Decide.{ℕ_discrete}
use native.Mathlib.Omega.{arith}
use lib.Dec.{eqb}
use lib.ListN.{length, take, drop, replicate, length-replicate, get_or-replicate}
use Rattle.group_block.specs.Block.{cap}
use Rattle.group_totals.proofs.Groups.{group_of, group_clear, Left, added_left, total_off, group_off, united_left}
use Rattle.hash.specs.Hash.{basis}
use Rattle.geometry.specs.Geometry.{valid_depth, valid_width, stride, size, RowsIn}
use Rattle.meter_memory.specs.Pairs.{paired_at}
use Rattle.meter_memory.specs.Rows.{group_at}
use Rattle.meter_keys.specs.Keys.{key_slot}
use Rattle.meter_row.specs.Row.{added_in}
use Rattle.meter_union.specs.Union.{united_at}
use Rattle.geometry.proofs.Widths.{depth_in, group_in}
use Rattle.geometry.proofs.Widths.{row_in}
use Rattle.meter.specs.Meter.{row_of, updated, united}
use Rattle.meter.proofs.Memory.{Updated, update_accepted, update_group, update_other, United, unite_accepted, unite_group}
use Rattle.meter_memory.proofs.Written.{rows_long}
use Rattle.traffic.specs.Traffic.{Pair, amount_sum, block_total}
use Rattle.traffic.proofs.Holds.{Holds}
use Rattle.traffic.proofs.Totals.{totals_add, totals_more, totals_append}

-- zeros hold no traffic
take_zeros : (k n : ℕ) → k ≤ n → take {A = ℕ} k (replicate n 0) ≡ replicate k 0
take_zeros zero n h = refl
take_zeros (suc k) zero h = absurd (omega arith)
take_zeros (suc k) (suc n) h = ap (λ (xs : List ℕ). 0 ∷ xs) (take_zeros k n (omega arith))

drop_zeros : (k n : ℕ) → drop {A = ℕ} k (replicate n 0) ≡ replicate (n - k) 0
drop_zeros zero n = ap (λ (m : ℕ). replicate m 0) (sym (sub-zero n))
drop_zeros (suc k) zero = ap (λ (m : ℕ). replicate m 0) (sym (zero-sub (suc k)))
drop_zeros (suc k) (suc n) = drop_zeros k n ∙ ap (λ (m : ℕ). replicate m 0) (sym (suc-sub-suc n k))

-- no traffic has totals of 0
no_total : (w r n i : ℕ) → block_total w r [] n i ≡ 0
unfolding block_total amount_sum
no_total w r n i = refl

module _ (d w : ℕ) (vw : valid_width w ≡ true) where
  pub zeros_at : (r g : ℕ) → r < d → g < w / 8 → group_at w (row_of w (replicate (size d w) 0) r) g ≡ record { counts = replicate 8 0; merge = 0 }
  unfolding group_at row_of size
  zeros_at r g p q =
      let i = group_in w g vw q in
      let inside = row_in r d (stride w) {n = d * stride w} p (omega arith) in
      rw (drop_zeros (r * stride w) (d * stride w), take_zeros (stride w) (d * stride w - r * stride w) (omega arith), drop_zeros (8 * g) (stride w), take_zeros 8 (stride w - 8 * g) (omega (arith, i.0, i.1)), get_or-replicate {A = ℕ} (stride w) (w + g) 0 0 i.1)

  pub start_holds : Holds d w (replicate (size d w) 0) []
  unfolding cap
  start_holds =
      record {
        long = length-replicate (size d w) 0;
        fits = λ r g p q. omega (arith, no_total w r 3 g);
        groups = λ r g p q. zeros_at r g p q ∙ sym (group_clear (block_total w r []) (no_total w r) g);
      }

  module _ (vd : valid_depth d ≡ true) (memory : List ℕ) (ps : List Pair) (holds : Holds d w memory ps) where
    rows : RowsIn d w (length memory)
    rows = (vw, (depth_in d vd).1, holds.long)

    -- an update
    module _ (key : List ℕ) (amount : ℕ) (e : (updated d w memory key amount).answer.status ≡ 0) where
      new : List Pair
      new = record { key = key; amount = amount } ∷ ps

      accepted : Updated d w memory key amount (updated d w memory key amount).memory
      accepted = update_accepted d w memory key amount e

      module _ (r : ℕ) (p : r < d) where
        slot : ℕ
        slot = key_slot basis w key r

        -- what is left of a group: the new totals
        Now : ℕ → Type 0
        Now g = (block_total w r new 3 g < cap 3) × (group_at w (row_of w (updated d w memory key amount).memory r) g ≡ group_of (block_total w r new) g)

        more : (n i : ℕ) → block_total w r new n i ≡ cond (eqb (slot / 2 ^ n) i) amount 0 + block_total w r ps n i
        unfolding slot new
        more = totals_more w r (record { key = key; amount = amount }) ps

        added_now : slot / 8 < w / 8 → Now (slot / 8)
        unfolding added_in slot Now
        added_now i =
            let row = row_of w memory r in
            let g = group_at w row (slot / 8) in
            let e : g ≡ group_of (block_total w r ps) (slot / 8) = holds.groups r (slot / 8) p i in
            let left = added_left (block_total w r ps) (block_total w r new) (totals_add w r new) slot amount more (holds.fits r (slot / 8) p i) in
            let l = left (rw e at (accepted.taken r p)) in
            (l.fits, rw (accepted.row r p, update_group w vw key amount r row (rows_long d w memory rows r p), e) l.is)

        other_now : (g : ℕ) → g < w / 8 → (g ≡ slot / 8 → ⊥) → Now g
        unfolding slot Now
        other_now g q z =
            let row = row_of w memory r in
            let away : slot / 8 ≡ g → ⊥ = λ y. z (sym y) in
            rw (
              accepted.row r p,
              update_other w vw key amount r row (rows_long d w memory rows r p) g q z,
              total_off (block_total w r ps) (block_total w r new) (totals_add w r new) slot amount more g away,
              group_off (block_total w r ps) (block_total w r new) (totals_add w r new) slot amount more g away,
            )
            (holds.fits r g p q, holds.groups r g p q)

        group_now : (g : ℕ) → g < w / 8 → Now g
        group_now g q = elim (ℕ_discrete g (slot / 8)) [ yes z ↦ rw z (added_now (omega arith)) | no z ↦ other_now g q z ]

      pub update_holds : Holds d w (updated d w memory key amount).memory (record { key = key; amount = amount } ∷ ps)
      unfolding new Now
      update_holds =
          record {
            long = accepted.long ∙ holds.long;
            fits = λ r g p q. (group_now r p g q).0;
            groups = λ r g p q. (group_now r p g q).1;
          }

    -- a union
    module _ (source : List ℕ) (qs : List Pair) (behind : Holds d w source qs) (e : (united d w memory source).answer.status ≡ 0) where
      joined : United d w memory source (united d w memory source).memory
      joined = unite_accepted d w memory source e

      both : ℕ → ℕ → ℕ → ℕ
      both r = block_total w r (qs ++ ps)

      group_joined : (r g : ℕ) → r < d → g < w / 8 → Left (both r) g (united_at w (row_of w source r) (row_of w memory r) g)
      unfolding paired_at both
      group_joined r g p q =
          let e : group_at w (row_of w memory r) g ≡ group_of (block_total w r ps) g = holds.groups r g p q in
          let f : group_at w (row_of w source r) g ≡ group_of (block_total w r qs) g = behind.groups r g p q in
          rw (e, f)
          (united_left (block_total w r ps) (block_total w r qs) (block_total w r (qs ++ ps)) (totals_add w r ps) (totals_add w r qs) (totals_add w r (qs ++ ps))
          (λ n i. omega (arith, totals_append w r qs ps n i)) g (holds.fits r g p q) (behind.fits r g p q) (rw (e, f) at (joined.taken r g p q)))

      pub unite_holds : Holds d w (united d w memory source).memory (qs ++ ps)
      unfolding both
      unite_holds =
          record {
            long = joined.long ∙ holds.long;
            fits = λ r g p q. (group_joined r g p q).fits;
            groups = λ r g p q.
                rw (joined.row r p, unite_group w vw (row_of w source r) (row_of w memory r) (rows_long d w memory rows r p) g q) (group_joined r g p q).is;
          }
