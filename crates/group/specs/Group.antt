-- A group's calls. Document 01, 'Rows, groups and blocks' and 'Updating, asking, uniting'. Cited by contracts and theorems.
use Rattle.std.specs.Prelude.{ℕ, ◌+◌, ◌%◌, Bool, cond, ◌&&◌, ltb}
use Rattle.little_endian.specs.Bytes.{number, bytes}
use Rattle.group_layout.specs.Layout.{marks, layout, valid}
use Rattle.group_layout.specs.Layout as layout-spec
use Rattle.group_block.specs.declared.Counter.{Counter}
use Rattle.group_block.specs.Kind.{Kind}
use Rattle.group_block.specs.Block.{BlockOf, Block, cap, shape, number_of, block, counter_at}
use Rattle.group_block.specs.Change.{change}
use Rattle.group_block.specs.Sum.{SumOf, fits, over}
use Rattle.group_block.specs.Sum as sum
use Rattle.answer.specs.declared.Answer.{Answer}
use Rattle.group.specs.declared.Group.{Group}
use Rattle.group.specs.Results.{Reading}
use Rattle.group.specs.Results.{Outcome}
use Rattle.answer.specs.Answers.{accepted, refused}
use Rattle.answer.specs.Numbers.{invalid_content, counter_full}

-- whether a merge byte is one of the 26 valid ones
abbrev pub valid_merge : ℕ → Bool
valid_merge m = valid 3 m

-- the block of level 3 that a group stands for, and the group of such a block, of any kind
unfoldable pub decode : Group → Block 3
decode g = block 3 (number g.counts) g.merge

unfoldable pub encode : {K : Kind} → BlockOf K 3 → Group
encode b = record { counts = bytes 8 (number_of b); merge = marks (shape b) }

-- the counter of a slot; a slot number counts by its remainder by 8
unfoldable pub reading : Counter → Reading
reading c = record { status = 0; value = c.value; level = c.level }

unfoldable pub read : Group → ℕ → Reading
read g slot = cond (valid 3 g.merge) (reading (counter_at (decode g) (slot % 8))) (record { status = invalid_content; value = 0; level = 0 })

-- a refused call leaves the group as it was
abbrev pub unchanged : ℕ → Group → Outcome
unchanged s g = record { status = s; group = g }

unfoldable pub settle : {K : Kind} → Group → SumOf K 3 → Outcome
settle g (fits b) = record { status = 0; group = encode b }
settle g (over s) = unchanged counter_full g

-- an amount added to the counter of a slot
unfoldable pub added : Group → ℕ → ℕ → Outcome
added g slot amount = cond (valid 3 g.merge) (settle g (sum.add (decode g) (slot % 8) amount)) (unchanged invalid_content g)

-- whether the counter of a slot holds its value with an amount added
unfoldable pub holds : Group → ℕ → ℕ → Bool
holds g slot amount = valid 3 g.merge && ltb ((counter_at (decode g) (slot % 8)).value + amount) (cap (counter_at (decode g) (slot % 8)).level)

-- a source group united with a target
unfoldable pub united_groups : Group → Group → Outcome
united_groups target source =
    cond (valid 3 target.merge && valid 3 source.merge) (settle target (sum.unite (decode target) (decode source))) (unchanged invalid_content target)

-- the largest level of a group's counters
unfoldable pub widest_of : ℕ → Answer
widest_of m = cond (valid 3 m) (accepted (layout-spec.widest_in (layout 3 m))) (refused invalid_content)

-- another value in the counter of a slot; the layout stays
unfoldable pub changed : Group → ℕ → ℕ → Outcome
changed g slot value =
    cond (valid 3 g.merge)
    (record { status = 0; group = record { counts = bytes 8 (number_of (change (decode g) (slot % 8) value)); merge = g.merge } })
    (unchanged invalid_content g)
