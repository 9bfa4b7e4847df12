use mathlib.Core.Path.{◌≡◌, ap, ap₂, ◌∙◌}
use native.Mathlib.Omega.{arith}
use Rattle.signed_slots.specs.Slots.{ones, lows, magnitudes, folded, size}
use Rattle.signed_slots.proofs.Unions.{size_in, past_spread}
use Rattle.signed_slots.proofs.size.Goals as goal
use Rattle.signed_slots.proofs.size.Goals.{After-magnitudes}

-- what is folded
size_is : (c : After-magnitudes) → let a = c.args in
    folded c.past.result c.magnitudes.result ≡ size ones lows a.word a.source
unfolding size
size_is c = ap₂ folded c.past.ensures (c.magnitudes.ensures ∙ ap (magnitudes lows) c.total.ensures)

pub folded-requires : goal.folded-requires
folded-requires c = let a = c.args in record { fact_1 = rw (size_is c) (size_in a.word a.source (omega arith) (omega arith)); fact_2 = rw c.past.ensures (past_spread a.word a.source) }

pub returns : goal.returns
returns c = c.folded.ensures ∙ size_is (goal.at.returns c).After-magnitudes
