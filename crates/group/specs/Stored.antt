-- The code's own terms.
use Rattle.std.specs.Prelude.{ℕ, cond, Option, Some, None}
use Rattle.little_endian.specs.Bytes.{bytes}
use Rattle.group_block.specs.declared.Packed.{Packed}
use Rattle.group.specs.declared.Group.{Group}
use Rattle.group.specs.declared.Kept.{Kept}
use Rattle.group.specs.Results.{Outcome}
use Rattle.group.specs.Group.{read, added, holds}

-- the group that the code makes of the count bytes and merge bits of a block
unfoldable pub stored : Packed → Outcome
stored s = record { status = 0; group = record { counts = bytes 8 s.word; merge = s.merge } }

-- what an addition leaves where the counter holds the sum: the count bytes, and the counter's value
unfoldable pub kept : Group → ℕ → ℕ → Option Kept
kept g slot amount =
    cond (holds g slot amount) (Some (record { counts = (added g slot amount).group.counts; value = (read (added g slot amount).group slot).value })) None
