use mathlib.Core.Path.{◌≡◌, sym, ap, ◌∙◌}
use mathlib.Core.Bool.{true}
use mathlib.Core.List.{List}
use Prim.Native.Nat.{ℕ}
use native.Mathlib.Omega.{arith}
use Rattle.meter_union.specs.Union.{unite_groups}
use Rattle.meter_runs.specs.Runs.{none_merged}
use Rattle.meter_union.proofs.unite_eight.Goals as goal
use Rattle.meter_union.proofs.unite_eight.Goals.{After-unite_side-arg-1, After-unite_unmerged-arg-1}

-- no group is merged, and no byte has changed where the unions are merged
none : (c : After-unite_side-arg-1) → let a = c.args in none_merged a.w 8 a.first a.row.now a.source.now ≡ true
none c = sym c.eight_unmerged.ensures ∙ c.if-not-eight_unmerged.false

same : (c : After-unite_unmerged-arg-1) → c.unite_side.new.row ≡ c.args.row.now
same c = c.unite_side.ensures.row_after ∙ rw c.if-unite_side.false

pub unite_side-requires : goal.unite_side-requires
unite_side-requires c = record { fact_1 = c.requires; fact_2 = none c }

pub returns-then-unite_side : goal.returns-then-unite_side
returns-then-unite_side c = c.unite_side.ensures.row_after ∙ rw c.if-unite_side.true

pub unite_unmerged-requires : goal.unite_unmerged-requires
unite_unmerged-requires c = record { fact_1 = (c.requires.0, omega arith, c.requires.2); fact_2 = rw (same c) (none (goal.at.unite_unmerged-requires c).After-unite_side-arg-1) }

pub returns : goal.returns
returns c = let a = c.args in
    c.unite_unmerged.ensures ∙ ap (λ (row : List ℕ). unite_groups a.w a.source.now 8 a.first row) (same (goal.at.returns c).After-unite_unmerged-arg-1)
