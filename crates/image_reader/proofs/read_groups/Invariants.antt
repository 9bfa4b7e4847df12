use mathlib.Core.Path.{◌≡◌}
use Prim.Native.Nat.{◌+◌, ◌*◌, ◌≤◌}
use lib.ListN.{length, drop}
use Rattle.image_format.specs.Read.{after_groups, read_groups}
use Rattle.group_codes.specs.Codes.{merges_of}
use Rattle.image_reader.proofs.read_groups.Given as goal

abbrev pub invariant-loop-i : goal.invariant-loop-i
invariant-loop-i l = (l.i ≤ 4) × (l.at ≤ l.p + 24 * l.i) × (length l.row ≡ length l.initial.row) × (after_groups (drop l.i (merges_of l.c-items)) l.at ≡ after_groups (merges_of l.c-items) l.p) × (read_groups (drop l.i (merges_of l.c-items)) (l.g + l.i) l.w l.row l.words l.at ≡ read_groups (merges_of l.c-items) l.g l.w l.initial.row l.words l.p)
