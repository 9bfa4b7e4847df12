-- A cleared memory holds no traffic; an accepted update and an accepted source leave a memory that holds the new traffic, with no
-- counter's level lower.
use mathlib.Core.Path.{◌≡◌, sym, ◌∙◌}
use mathlib.Core.Bool.{Bool, true}
use mathlib.Core.List.{List, [], ◌∷◌, ◌++◌}
use Prim.Native.Nat.{ℕ, ◌/◌, ◌<◌}
use native.Mathlib.Decide.{ℕ_discrete}
use native.Mathlib.Omega.{arith}
use lib.IntN.{ℤ}
use lib.ListN.{length, replicate, length-replicate}
use Rattle.hash.specs.Hash.{basis}
use Rattle.geometry.specs.Geometry.{valid_depth, valid_width, size, RowsIn}
use Rattle.geometry.proofs.Widths.{depth_in, slot_in}
use Rattle.meter_memory.specs.Rows.{row_of, group_at}
use Rattle.meter_keys.specs.Keys.{key_slot}
use Rattle.meter_keys.proofs.Landing.{key_in}
use Rattle.traffic.proofs.Steps.{zeros_at}
use Rattle.signed_totals.proofs.Groups as group
use Rattle.signed_row.specs.Row.{added_in, row_amount}
use Rattle.signed.specs.Signed.{updated, combined_meters}
use Rattle.signed_claim.specs.Traffic.{Pair, block_total, times_pairs}
use Rattle.signed_claim.proofs.Totals.{pair_plus, totals_add, totals_combined}
use Rattle.signed_claim.proofs.Holds.{Holds, Grows}
use Rattle.signed_claim.proofs.Calls.{Updated, update_accepted, Combined, combine_accepted}

pub start_holds : (d w : ℕ) → valid_width w ≡ true → Holds d w (replicate (size d w) 0) []
unfolding block_total
start_holds d w vw =
    record { long = length-replicate (size d w) 0; groups = λ r g p q. rw (zeros_at d w vw r g p q) (group.clear_holds g) }

-- groups that each hold the new totals, with no slot's level lower
module _ (d w : ℕ) (vw : valid_width w ≡ true) (memory after : List ℕ) (ps : List Pair) (long : length after ≡ size d w)
    (now : (r g : ℕ) → r < d → g < w / 8 → group.Next (block_total w r ps) g (group_at w (row_of w memory r) g) (group_at w (row_of w after r) g)) where
  pub step : Holds d w after ps × Grows d w memory after
  step = (record { long = long; groups = λ r g p q. (now r g p q).holds }, λ r s p q. (now r (s / 8) p (slot_in w s vw q)).grows s)

module _ (d w : ℕ) (vd : valid_depth d ≡ true) (vw : valid_width w ≡ true) (memory : List ℕ) (ps : List Pair) (holds : Holds d w memory ps) where
  rows : RowsIn d w (length memory)
  rows = (vw, (depth_in d vd).1, holds.long)

  -- an update
  module _ (key : List ℕ) (amount : ℤ) (e : (updated d w memory key amount).answer.status ≡ 0) where
    abbrev new : List Pair
    new = record { key = key; amount = amount } ∷ ps

    abbrev after : List ℕ
    after = (updated d w memory key amount).memory

    accepted : Updated d w memory rows key amount after
    accepted = update_accepted d w memory rows key amount e

    Now : ℕ → ℕ → Type 0
    Now r g = group.Next (block_total w r new) g (group_at w (row_of w memory r) g) (group_at w (row_of w after r) g)

    module _ (r : ℕ) (p : r < d) where
      abbrev slot : ℕ
      slot = key_slot basis w key r

      at_slot : Now r (slot / 8)
      unfolding added_in Now
      at_slot =
          rw (accepted.at r p)
          (group.added_next (block_total w r ps) (block_total w r new) slot (row_amount basis key amount r) (pair_plus w r (record { key = key; amount = amount }) ps)
          (totals_add w r new) (holds.groups r (slot / 8) p (slot_in w slot vw (key_in w key r vw))) (accepted.taken r p))

      off_slot : (g : ℕ) → g < w / 8 → (g ≡ slot / 8 → ⊥) → Now r g
      unfolding Now
      off_slot g q z =
          rw (accepted.other r g p q z)
          (record {
            holds = group.off_holds (block_total w r ps) (block_total w r new) slot (row_amount basis key amount r) (pair_plus w r (record { key = key; amount = amount }) ps)
                (λ y. z (sym y)) (holds.groups r g p q);
            grows = λ s. omega arith;
          })

      now : (g : ℕ) → g < w / 8 → Now r g
      now g q = elim (ℕ_discrete g (slot / 8)) [ yes z ↦ rw z at_slot | no z ↦ off_slot g q z ]

    pub update_step : Holds d w (updated d w memory key amount).memory (record { key = key; amount = amount } ∷ ps)
        × Grows d w memory (updated d w memory key amount).memory
    unfolding Now
    update_step = step d w vw memory after new (accepted.long ∙ holds.long) (λ r g p q. now r p g q)

  -- a source added or taken away
  module _ (minus : Bool) (source : List ℕ) (qs : List Pair) (behind : Holds d w source qs) (e : (combined_meters minus d w memory source).answer.status ≡ 0) where
    accepted_source : Combined minus d w memory source rows (combined_meters minus d w memory source).memory
    accepted_source = combine_accepted minus d w memory source rows e

    pub combine_step : Holds d w (combined_meters minus d w memory source).memory (times_pairs minus qs ++ ps)
        × Grows d w memory (combined_meters minus d w memory source).memory
    combine_step =
        step d w vw memory (combined_meters minus d w memory source).memory (times_pairs minus qs ++ ps) (accepted_source.long ∙ holds.long)
        (λ r g p q.
        rw (accepted_source.at r g p q)
        (group.combined_next minus (block_total w r ps) (block_total w r qs) (block_total w r (times_pairs minus qs ++ ps)) (totals_add w r ps) (totals_add w r qs)
        (totals_add w r (times_pairs minus qs ++ ps)) (totals_combined w r minus qs ps) (holds.groups r g p q) (behind.groups r g p q)
        (accepted_source.taken r g p q)))
