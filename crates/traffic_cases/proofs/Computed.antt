-- What is proved by computation. Here, and in watch_cases, every definition is opened.
use mathlib.Core.Path.{◌≡◌, refl, sym}
use mathlib.Core.Bool.{Bool, true, false, ◌&&◌, true≢false}
use mathlib.Core.List.{List, [], ◌∷◌, ◌++◌}
use Prim.Native.Nat.{ℕ, zero, suc, ◌-◌, ◌^◌}
use lib.Dec.{eqb, ltb}
use lib.ListN.{replicate}
use Rattle.answer.specs.Answers.{accepted}
use Rattle.little_endian.specs.Bytes as bytes
use Rattle.group_layout.specs.Layout as layouts
use Rattle.group_layout.specs.Code as codes
use Rattle.group_block.specs.Block as blocks
use Rattle.group_block.specs.Change as changes
use Rattle.group_block.specs.Sum as sums
use Rattle.hash.specs.Hash as hashes
use Rattle.group.specs.Group as groups
use Rattle.group_codes.specs.Pack as packs
use Rattle.geometry.specs.Geometry as geometry
use Rattle.answer.specs.Order as order
use Rattle.answer.specs.Answers as answers
use Rattle.meter_memory.specs.Rows as rows
use Rattle.meter_keys.specs.Keys as keys
use Rattle.meter_row.specs.Row as row
use Rattle.meter_memory.specs.Pairs as pairs
use Rattle.meter.specs.Meter as meter
use Rattle.word.specs.Word as words
use Rattle.image_format.specs.Image as image
use Rattle.image_format.specs.Write as writing
use Rattle.image_format.specs.Read as reading
use Rattle.feed_records.specs.Words as records
use Rattle.feed.specs.Record as carrying
use Rattle.watch_list.specs.Layout as layout
use Rattle.watch.specs.Watch as watch
use Rattle.watch_checks.specs.Checks as checks
use Rattle.traffic.specs.Traffic as totals
use Rattle.traffic.specs.Calls as calls
use Rattle.traffic.specs.Calls.{none, update, estimate, feed, run, done, Faithful}
use Rattle.traffic_cases.specs.Cases.{at_10, at_11, ◌▸◌, update_words, other, mixed, fed, every, numbers, cases, AllMeet, hand_made, ByHand}
use Rattle.traffic_cases.specs.Refusals.{holding, Refusal, refusals}

-- whether each refused call gives its number
unfoldable pub all_refuse : List ℕ → List Refusal → Bool
all_refuse memory [] = true
all_refuse memory (r ∷ rs) =
    eqb (done 1 64 r.d r.w r.call memory).answer.status r.number && (ltb 0 r.number && all_refuse memory rs)

-- a memory united with itself n times, and whether each of these unions is accepted
unfoldable pub twice : ℕ → List ℕ → List ℕ
twice zero memory = memory
twice (suc n) memory = twice n (meter.united 1 32 memory memory).memory

unfoldable pub all_fit : ℕ → List ℕ → Bool
all_fit zero memory = true
all_fit (suc n) memory = eqb (meter.united 1 32 memory memory).answer.status 0 && all_fit n (meter.united 1 32 memory memory).memory

-- the bytes that `holding` leaves
abbrev pub held : List ℕ
held = replicate 8 255 ++ replicate 24 0 ++ 127 ∷ 2 ∷ replicate 38 0

-- the bytes of a meter with 2 ^ 32 - 1, 2 ^ 64 - 2 ^ 32 and 2 ^ 64 - 1 in the counter of slot 10
abbrev pub first : List ℕ
first = replicate 8 0 ++ replicate 4 255 ++ replicate 20 0 ++ 0 ∷ 0x07 ∷ 0 ∷ 0 ∷ []

abbrev pub nearly : List ℕ
nearly = replicate 12 0 ++ replicate 4 255 ++ replicate 16 0 ++ 0 ∷ 0x7f ∷ 0 ∷ 0 ∷ []

abbrev pub whole : List ℕ
whole = replicate 8 0 ++ replicate 8 255 ++ replicate 16 0 ++ 0 ∷ 0x7f ∷ 0 ∷ 0 ∷ []

pub record Computed : Type 0 where
  pub meets : AllMeet cases
  pub by_hand : ByHand hand_made
  pub holds : run 1 64 holding ≡ held
  pub holding_faithful : Faithful 1 64 holding
  pub refuse : all_refuse held refusals ≡ true
  pub starts : run 1 32 (none ▸ update at_10 4294967295) ≡ first
  pub start_faithful : Faithful 1 32 (none ▸ update at_10 4294967295)
  pub fit : all_fit 32 first ≡ true
  pub doubles : twice 32 first ≡ nearly
  pub last : meter.updated 1 32 nearly at_10 4294967295 ≡ record { answer = accepted 0; memory = whole }
  pub figure : (done 1 32 1 32 (estimate at_10) whole).answer ≡ accepted (2 ^ 64 - 1)
  pub nothing : (done 1 32 1 32 (update at_10 0) whole).answer.status ≡ 0
  pub one : (done 1 32 1 32 (update at_10 1) whole).answer.status ≡ 6
  pub near : (done 1 32 1 32 (update at_11 1) whole).answer.status ≡ 6
  pub by_record : (done 1 32 1 32 (feed 1 update_words) whole).answer.status ≡ 6
  pub union : (meter.united 1 32 whole whole).answer.status ≡ 6

-- a call that was told the meter's depth and width, and one that was refused
took : {A : Type 0} {d w : ℕ} → A → true ≡ true → (d ≡ d) × (w ≡ w) × A
took l e = (refl, refl, l)

no : {A : Type 0} → false ≡ true → A
no e = absurd (true≢false (sym e))

infixr 20 ◌&◌
◌&◌ : {A B : Type 0} → A → B → A × B
a & b = (a, b)

pub computed : Computed
unfolding numbers all_refuse all_fit twice calls.record_pair calls.traffic calls.after calls.behind calls.run calls.done calls.bytes_of
    calls.words_of calls.Faithful calls.Listed calls.LeftBy totals.amount_sum keys.same_key totals.key_total totals.block_of totals.block_total
    totals.any_below totals.overflows totals.level_up_to totals.level totals.lower totals.least_below totals.landing_total totals.upper
    layouts.bit layouts.ones layouts.marks layouts.layout layouts.valid layouts.widest_in codes.layouts codes.merged_code codes.code
    codes.uncode blocks.cap blocks.shape blocks.number_of blocks.fill blocks.block_as blocks.counter_at blocks.total changes.change sums.sum_total
    sums.held sums.join sums.add sums.unite hashes.fnv_step hashes.fnv hashes.slot_of bytes.number bytes.bytes groups.decode groups.encode
    groups.reading groups.read groups.settle groups.added groups.united_groups groups.widest_of groups.changed packs.four_code packs.packed
    packs.four_merges packs.unpacked geometry.valid_depth geometry.one_of_powers geometry.valid_width geometry.stride geometry.size
    order.first_of order.place_in order.earlier order.earliest answers.answer_of answers.leaves answers.finish rows.map_rows rows.of_rows rows.group_at rows.with_group
    rows.of_groups rows.least_or rows.least rows.largest keys.key_slot row.added_in row.update_status row.update_row row.read_row
    row.level_status row.group_level row.widest_status row.widest_row pairs.paired_at pairs.pair_status pairs.pairs_status pairs.pair_groups
    pairs.pair_row meter.cleared meter.bad_call meter.updated meter.read_status meter.read_value meter.estimated meter.widest meter.row_of
    pairs.row_status_by pairs.row_paired_by meter.united image.word words.next words.payload words.is_due words.tested words.below
    image.log_from image.log_width image.head_payload image.word_count image.parts image.level_at image.is_first image.slot_words
    image.slots_words image.group_words image.groups_words image.layout_at image.four_words image.row_words image.rows_words image.body
    image.end_word image.image writing.all_valid writing.valid_rows writing.slot_size writing.slots_size writing.group_size
    writing.write_status writing.finish_write writing.written reading.check_head reading.first_bits reading.check_parts reading.check_slot
    reading.check_slots reading.check_groups reading.merges_at reading.check_four reading.check_fours reading.check_end reading.checked
    reading.value_from reading.read_slot reading.read_slots reading.read_group reading.read_groups reading.after_groups reading.after_fours
    reading.read_fours reading.read_rows reading.finish_read reading.read_answer reading.taken records.opens_key records.opened
    records.key_payload records.key_word records.check_key records.check_amount records.key_byte records.key_from records.amount_of
    records.update_step records.query_step records.body_of records.update_body records.query_body carrying.outcome_of carrying.update_outcome
    carrying.queried carrying.opened_outcome carrying.record_outcome carrying.update_memory carrying.record_memory carrying.finish_record carrying.recorded
    layout.all_zero layout.sound_lengths layout.sound checks.bad_lines watch.watch_status watch.watched
computed =
    let other_is : Faithful 1 32 other = ((((tt, refl, took tt), refl, took tt), refl, took tt), refl, took (tt, refl, took tt)) in
    let mixed-is : Faithful 1 32 mixed
    = ((((((tt, refl, took tt), refl, took tt), refl, took tt), refl, took tt), refl, took other_is), refl, took other_is) in
    let fed-is : Faithful 1 32 fed = ((((mixed-is, refl, no), refl, took tt), refl, took tt), refl, took tt) in
    let every-is : Faithful 1 32 every = ((((((fed-is, refl, no), refl, took tt), refl, took tt), refl, no), refl, no), refl, no) in
    record {
      meets =
          (tt, refl, refl, refl, refl, refl)
          & (((((tt, refl, took tt), refl, took tt), refl, took tt)), refl, refl, refl, refl, refl)
          & (((tt, refl, took tt), refl, took tt), refl, refl, refl, refl, refl)
          & (((((tt, refl, took tt), refl, took tt), refl, took tt), refl, took tt), refl, refl, refl, refl, refl)
          & ((((tt, refl, took tt), refl, took tt), refl, took tt), refl, refl, refl, refl, refl)
          & ((((((tt, refl, took tt), refl, took tt), refl, took tt), refl, no), refl, took tt), refl, refl, refl, refl, refl)
          & (every-is, refl, refl, refl, refl, refl)
          & (((((tt, refl, took tt), refl, no), refl, took tt), refl, no), refl, refl, refl, refl, refl)
          & (((tt, refl, took tt), refl, took tt), refl, refl, refl, refl, refl)
          & tt;
      by_hand = (refl, refl, refl);
      holds = refl;
      holding_faithful = ((((((((((tt, refl, took tt), refl, took tt), refl, took tt), refl, took tt), refl, took tt), refl, took tt), refl, took tt), refl, took tt), refl, took tt), refl, took tt);
      refuse = refl;
      starts = refl;
      start_faithful = (tt, refl, took tt);
      fit = refl;
      doubles = refl;
      last = refl;
      figure = refl;
      nothing = refl;
      one = refl;
      near = refl;
      by_record = refl;
      union = refl;
    }
