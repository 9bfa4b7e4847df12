-- What is proved by computation, on entries. Here, and in traffic_cases, every definition is opened.
use mathlib.Core.Path.{◌≡◌, refl}
use mathlib.Core.Bool.{true, false}
use mathlib.Core.List.{List, [], ◌∷◌}
use lib.ListN.{length}
use Rattle.little_endian.specs.Bytes as bytes
use Rattle.group_layout.specs.Layout as layouts
use Rattle.group_block.specs.Block as blocks
use Rattle.group_block.specs.Change as changes
use Rattle.group_block.specs.Sum as sums
use Rattle.hash.specs.Hash as hashes
use Rattle.group.specs.Group as groups
use Rattle.geometry.specs.Geometry as geometry
use Rattle.answer.specs.Order as order
use Rattle.answer.specs.Answers as answers
use Rattle.meter_memory.specs.Rows as rows
use Rattle.meter_keys.specs.Keys as keys
use Rattle.meter_row.specs.Row as row
use Rattle.meter.specs.Meter as meter
use Rattle.watch_list.specs.List as lists
use Rattle.watch_claim.specs.Steps.{remove}
use Rattle.watch_claim.specs.Claim as claim
use Rattle.watch_claim.proofs.Entrywise as entries
use Rattle.watch_claim.proofs.Entrywise.{entered}
use Rattle.watch_cases.specs.Cases.{Case, cases, one, many}
use Rattle.watch_cases.proofs.Told.{these, allTold}

-- a case, on entries
abbrev pub Computes : Case → Type 0
Computes c =
    (allTold 1 32 300 c.steps ≡ true) × ((entered 1 32 c.steps).watch.mark ≡ 0) × (claim.contents (entered 1 32 c.steps).watch.entries ≡ c.listing)

abbrev pub AllCompute : List Case → Type 0
AllCompute [] = Unit
AllCompute (c ∷ cs) = Computes c × AllCompute cs

pub record Computed : Type 0 where
  pub all : AllCompute cases
  pub told : allTold 1 32 1 (one 64 ∷ remove (0 ∷ []) ∷ many 65) ≡ true
  pub filled : length (entered 1 32 (many 64)).watch.entries ≡ 64
  pub off : (entered 1 32 (many 64)).watch.mark ≡ 0
  pub on : (entered 1 32 (many 65)).watch.mark ≡ 1
  pub no_place : lists.listed (64 ∷ []) (entered 1 32 (many 65)).watch.entries ≡ false
  pub as_many : length (entered 1 32 (many 65)).watch.entries ≡ 64
  pub stays : (entered 1 32 (remove (0 ∷ []) ∷ many 65)).watch.mark ≡ 1
  pub joins : lists.listed (64 ∷ []) (entered 1 32 (one 64 ∷ remove (0 ∷ []) ∷ many 65)).watch.entries ≡ true
  pub still : (entered 1 32 (one 64 ∷ remove (0 ∷ []) ∷ many 65)).watch.mark ≡ 1

infixr 20 ◌&◌
◌&◌ : {A B : Type 0} → A → B → A × B
a & b = (a, b)

pub computed : Computed
unfolding many these allTold entries.passes entries.changed entries.entered claim.contents keys.same_key
    layouts.bit layouts.ones layouts.marks layouts.layout layouts.valid layouts.widest_in
    blocks.cap blocks.shape blocks.number_of blocks.fill blocks.block_as blocks.counter_at blocks.total changes.change sums.sum_total
    sums.held sums.join sums.add sums.unite hashes.fnv_step hashes.fnv hashes.slot_of bytes.number bytes.bytes groups.decode groups.encode
    groups.reading groups.read groups.settle groups.added groups.widest_of groups.changed
    geometry.valid_depth geometry.one_of_powers geometry.valid_width geometry.stride geometry.size
    order.first_of order.place_in order.earlier order.earliest answers.answer_of answers.leaves answers.finish
    rows.map_rows rows.of_rows rows.group_at rows.with_group rows.of_groups rows.least_or rows.least rows.largest
    keys.key_slot row.added_in row.update_status row.update_row row.read_row
    meter.bad_call meter.updated meter.read_status meter.read_value meter.estimated
    lists.listed lists.joined lists.renewed lists.noted lists.without lists.taken_off
computed =
    record {
      all =
          (refl, refl, refl)
          & (refl, refl, refl)
          & (refl, refl, refl)
          & (refl, refl, refl)
          & (refl, refl, refl)
          & (refl, refl, refl)
          & (refl, refl, refl)
          & (refl, refl, refl)
          & (refl, refl, refl)
          & (refl, refl, refl)
          & (refl, refl, refl)
          & tt;
      told = refl;
      filled = refl;
      off = refl;
      on = refl;
      no_place = refl;
      as_many = refl;
      stays = refl;
      joins = refl;
      still = refl;
    }
