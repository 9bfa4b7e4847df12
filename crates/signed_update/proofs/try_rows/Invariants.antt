use mathlib.Core.List.{List}
use Prim.Native.Nat.{ℕ}
use lib.ListN.{get_or}
use lib.IntN.{ℤ}
use Rattle.group.specs.Results.{Outcome}
use Rattle.answer.specs.Refusals.{status}
use Rattle.signed_number.specs.Number.{integer}
use Rattle.signed_row.specs.Hashes.{added_by}
use Rattle.signed_update.proofs.Trying.{Trying}
use Rattle.signed_update.proofs.try_rows.Given as goal

-- what row r is left with
abbrev pub outcome : ℕ → List ℕ → ℤ → ℕ → List ℕ → Outcome
outcome w hashes amount r row = added_by w (get_or hashes r 0) amount row

abbrev pub invariant-loop-r : goal.invariant-loop-r
invariant-loop-r l = Trying (outcome l.w l.hashes (integer l.minus l.magnitude)) l.d l.w l.memory l.groups (status l.taken) l.r
