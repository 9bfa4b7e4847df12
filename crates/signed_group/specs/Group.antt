-- A signed group's calls. Document 02, request 3. Cited by contracts and theorems.
use Rattle.std.specs.Prelude.{ℕ, ◌%◌, Bool, false, cond, [], ◌∷◌, eqb, ℤ}
use Rattle.little_endian.specs.Bytes.{number}
use Rattle.group_layout.specs.Layout.{layout, valid, level_of}
use Rattle.group_block.specs.Block.{BlockOf, all_clean, block_as, counter_value}
use Rattle.group_block.specs.Sum as sum
use Rattle.answer.specs.Numbers.{invalid_content, minus_zero}
use Rattle.answer.specs.Order.{unless, first_of, earlier}
use Rattle.group.specs.declared.Group.{Group}
use Rattle.group.specs.Results.{Outcome}
use Rattle.group.specs.Group.{unchanged, settle}
use Rattle.signed_number.specs.Number.{signed_of}
use Rattle.signed_block.specs.Signed.{signed, times_block}
use Rattle.signed_group.specs.Results.{Reading}

-- the block of level 3 that a group stands for
unfoldable pub decode : Group → BlockOf signed 3
decode g = block_as signed 3 (number g.counts) g.merge

-- lines 5 and 13: a merge byte that is not valid, and a counter that holds minus zero
unfoldable pub bad_group : Group → ℕ
bad_group g =
    first_of (unless (valid 3 g.merge) invalid_content ∷ unless (all_clean signed (layout 3 g.merge) (number g.counts)) minus_zero ∷ [])

-- the counter of a slot; a slot number counts by its remainder by 8
unfoldable pub read : Group → ℕ → Reading
read g slot =
    cond (eqb (bad_group g) 0)
    (record { status = 0; value = signed_of (counter_value (decode g) (slot % 8)); level = level_of (layout 3 g.merge) (slot % 8) })
    (record { status = bad_group g; value = record { minus = false; magnitude = 0 }; level = 0 })

-- an amount added to the counter of a slot
unfoldable pub added : Group → ℕ → ℤ → Outcome
added g slot amount = cond (eqb (bad_group g) 0) (settle g (sum.add (decode g) (slot % 8) amount)) (unchanged (bad_group g) g)

-- lines 5 and 13 of two groups: 5 in either comes before 13 in either
unfoldable pub bad_pair : Group → Group → ℕ
bad_pair target source = earlier (bad_group target) (bad_group source)

-- a source group times a sign united with a target: added to it or, with a minus, taken away from it
unfoldable pub combined : Bool → Group → Group → Outcome
combined minus target source =
    cond (eqb (bad_pair target source) 0) (settle target (sum.unite (decode target) (times_block minus (decode source)))) (unchanged (bad_pair target source) target)
