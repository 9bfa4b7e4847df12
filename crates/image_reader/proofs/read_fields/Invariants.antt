use mathlib.Core.Path.{◌≡◌}
use Prim.Native.Nat.{◌+◌, ◌≤◌}
use lib.ListN.{drop}
use Rattle.group_codes.specs.Pack.{code_merge}
use Rattle.image_format.specs.Write.{group_size}
use Rattle.image_format.specs.Fields.{group_fields}
use Rattle.image_reader.proofs.Fields.{fields_sum}
use Rattle.image_reader.proofs.read_fields.Given as goal

abbrev pub invariant-loop-i : goal.invariant-loop-i
invariant-loop-i l = (l.i ≤ l.n) × (l.n ≤ 8) × (l.n ≡ group_size (code_merge l.c))
    × (l.x.word + fields_sum (drop l.i (group_fields (code_merge l.c))) l.words (l.p + l.i) ≡ fields_sum (group_fields (code_merge l.c)) l.words l.p)
