-- Eights of groups in a row of w slots, and what unions in a run of groups answer. The code's own terms.
use Rattle.std.specs.Prelude.{ℕ, zero, suc, ◌+◌, ◌*◌, cond, List}
use Rattle.group.specs.Group.{united_groups}
use Rattle.meter_runs.specs.Runs.{none_merged, run_status}

-- The first eight groups of a row, by number, some of which is merged in either row: of n eights, the first of which is eight e; if there are none, the one after them.
unfoldable pub next_merged : ℕ → List ℕ → List ℕ → ℕ → ℕ → ℕ
next_merged w row source zero e = e
next_merged w row source (suc n) e = cond (none_merged w 8 (8 * e) row source) (next_merged w row source n (e + 1)) e

-- what the unions of n groups, the first of which is group g, answer together
abbrev pub groups_status : ℕ → List ℕ → List ℕ → ℕ → ℕ → ℕ
groups_status w source row n g = run_status united_groups w source row n g
