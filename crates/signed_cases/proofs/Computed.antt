-- What is proved by computation: every definition is opened.
use mathlib.Core.Path.{◌≡◌, refl, sym}
use mathlib.Core.Bool.{Bool, true, false, ◌&&◌, true≢false}
use mathlib.Core.List.{List, [], ◌∷◌}
use Prim.Native.Nat.{ℕ}
use lib.Dec.{eqb, ltb}
use lib.IntN.{pos}
use lib.ListN.{replicate}
use Rattle.little_endian.specs.Bytes as bytes
use Rattle.group_layout.specs.Layout as layouts
use Rattle.group_block.specs.Block as blocks
use Rattle.group_block.specs.Sum as sums
use Rattle.hash.specs.Hash as hashes
use Rattle.group.specs.Group as groups
use Rattle.geometry.specs.Geometry as geometry
use Rattle.answer.specs.Order as order
use Rattle.answer.specs.Answers as answers
use Rattle.meter_memory.specs.Rows as rows
use Rattle.meter_memory.specs.Pairs as pairs
use Rattle.meter_keys.specs.Keys as keys
use Rattle.traffic.specs.Traffic as landing
use Rattle.signed_number.specs.Number as integers
use Rattle.signed_block.specs.Signed as signed-blocks
use Rattle.signed_median.specs.Median as medians
use Rattle.signed_group.specs.Group as signed-groups
use Rattle.signed_row.specs.Row as row
use Rattle.signed.specs.Signed as signed-meter
use Rattle.signed_claim.specs.Traffic as totals
use Rattle.signed_claim.specs.Calls as calls
use Rattle.signed_claim.specs.Calls.{none, update, run, done, Faithful}
use Rattle.signed_cases.specs.Cases.{plus_12, ◌▸◌, week, change, back, every, numbers, cases, AllMeet}
use Rattle.signed_cases.specs.Refusals.{holding, Refusal, refusals, Damaged, damaged}

-- whether each refused call gives its number, and each call on a damaged content
unfoldable pub all_refuse : List ℕ → List Refusal → Bool
all_refuse memory [] = true
all_refuse memory (r ∷ rs) = eqb (done 1 32 r.d r.w r.call memory).status r.number && (ltb 0 r.number && all_refuse memory rs)

unfoldable pub all_give : List Damaged → Bool
all_give [] = true
all_give (x ∷ xs) = eqb (done x.d 32 x.d 32 x.call x.content).status x.number && all_give xs

-- the bytes that `holding` leaves
abbrev pub held : List ℕ
held = 1 ∷ replicate 35 0

pub record Computed : Type 0 where
  pub meets : AllMeet cases
  pub holds : run 1 32 holding ≡ held
  pub holding_faithful : Faithful 1 32 holding
  pub refuse : all_refuse held refusals ≡ true
  pub give : all_give damaged ≡ true

-- a call that was told the meter's depth and width, and one that was refused
took : {A : Type 0} {d w : ℕ} → A → true ≡ true → (d ≡ d) × (w ≡ w) × A
took l e = (refl, refl, l)

no : {A : Type 0} → false ≡ true → A
no e = absurd (true≢false (sym e))

infixr 20 ◌&◌
◌&◌ : {A B : Type 0} → A → B → A × B
a & b = (a, b)

pub computed : Computed
unfolding numbers all_refuse all_give calls.traffic calls.after calls.behind calls.run calls.done calls.bytes_of
    calls.Faithful calls.Listed calls.LeftBy totals.share totals.block_total totals.times_pairs landing.block_of
    layouts.bit layouts.ones layouts.marks layouts.layout layouts.valid layouts.level_of
    blocks.cap blocks.shape blocks.number_of blocks.fill blocks.all_clean blocks.block_as blocks.counter_value blocks.total
    sums.sum_total sums.held sums.join sums.add sums.unite hashes.fnv_step hashes.fnv hashes.slot_of hashes.sign_of
    bytes.number bytes.bytes groups.encode groups.settle
    geometry.valid_depth geometry.one_of_powers geometry.valid_width geometry.stride geometry.size
    order.first_of order.place_in order.earlier order.earliest answers.answer_of answers.leaves answers.finish
    rows.row_of rows.map_rows rows.of_rows rows.group_at rows.with_group rows.of_groups
    pairs.paired_at pairs.pair_status pairs.pairs_status pairs.pair_groups pairs.pair_row pairs.row_status_by pairs.row_paired_by
    keys.key_slot keys.key_sign integers.times_sign integers.signed_of
    signed-blocks.top signed-blocks.sign_bits signed-blocks.sign_read signed-blocks.not_minus_zero signed-blocks.times_block
    medians.insert medians.in_order medians.median
    signed-groups.decode signed-groups.bad_group signed-groups.read signed-groups.added signed-groups.bad_pair signed-groups.combined
    row.added_in row.update_status row.update_row row.read_row row.read_status row.row_figure
    signed-meter.bad_call signed-meter.cleared signed-meter.updated signed-meter.signed_answer signed-meter.estimated signed-meter.combined_meters
computed =
    let one : Faithful 1 32 (none ▸ update plus_12 (pos 69995)) = (tt, refl, took tt) in
    let week-is : Faithful 1 32 week = ((tt, refl, took tt), refl, took tt) in
    let change-is : Faithful 1 32 change = (week-is, refl, took one) in
    let back_is : Faithful 1 32 back = (change-is, refl, took one) in
    let every-is : Faithful 1 32 every =
    (((((((back_is, refl, took tt), refl, took tt), refl, took tt), refl, no), refl, no), refl, no), refl, took change-is) in
    record {
      meets =
          (tt, refl, refl, refl, refl)
          & ((((tt, refl, took tt), refl, took tt), refl, took tt), refl, refl, refl, refl)
          & ((((tt, refl, took tt), refl, took tt), refl, took tt), refl, refl, refl, refl)
          & ((((tt, refl, took tt), refl, took tt), refl, took tt), refl, refl, refl, refl)
          & ((tt, refl, took tt), refl, refl, refl, refl)
          & ((tt, refl, took tt), refl, refl, refl, refl)
          & (((tt, refl, took tt), refl, took tt), refl, refl, refl, refl)
          & (week-is, refl, refl, refl, refl)
          & (change-is, refl, refl, refl, refl)
          & (back_is, refl, refl, refl, refl)
          & ((back_is, refl, took back_is), refl, refl, refl, refl)
          & (((tt, refl, took tt), refl, took (tt, refl, took tt)), refl, refl, refl, refl)
          & (((back_is, refl, took tt), refl, took tt), refl, refl, refl, refl)
          & (every-is, refl, refl, refl, refl)
          & (every-is, refl, refl, refl, refl)
          & (((((tt, refl, took tt), refl, took tt), refl, took tt), refl, took tt), refl, refl, refl, refl)
          & tt;
      holds = refl;
      holding_faithful = (tt, refl, took tt);
      refuse = refl;
      give = refl;
    }
