use mathlib.Core.Path.{◌≡◌}
use Prim.Native.Nat.{◌≤◌}
use lib.ListN.{drop}
use Rattle.image_format.specs.Read.{check_groups}
use Rattle.group_codes.specs.Codes.{merges_of}
use Rattle.image_checker.proofs.check_groups.Given as goal

abbrev pub invariant-loop-c : goal.invariant-loop-c
invariant-loop-c l = (l.c-index ≤ 4) × (check_groups (drop l.c-index (merges_of l.fn.codes)) l.words l.at ≡ check_groups (merges_of l.fn.codes) l.words l.p)
