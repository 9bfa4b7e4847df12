use mathlib.Core.Path.{◌≡◌, ap₂, ◌∙◌}
use Prim.Native.Nat.{◌+◌}
use native.Mathlib.Omega.{arith}
use Rattle.signed_slots.specs.Slots.{ones, lows, magnitudes, folded, apart, total}
use Rattle.signed_slots.proofs.Unions.{total_in, folded_in, apart_spread}
use Rattle.signed_slots.proofs.total.Goals as goal
use Rattle.signed_slots.proofs.total.Goals.{After-folded, After-magnitudes-2}

-- what is folded
module _ (c : After-magnitudes-2) where
  folded_is : folded c.apart.result c.magnitudes-2.result ≡ folded (apart ones c.args.word c.args.source) (magnitudes lows c.args.source)
  folded_is = ap₂ folded c.apart.ensures c.magnitudes-2.ensures

-- and the sum
sum_is : (c : After-folded) → let a = c.args in
    c.magnitudes.result + c.folded.result ≡ total ones lows a.word a.source
unfolding total
sum_is c = ap₂ ◌+◌ c.magnitudes.ensures (c.folded.ensures ∙ folded_is (goal.at.After-folded c).After-magnitudes-2)

pub folded-requires : goal.folded-requires
folded-requires c = let a = c.args in record { fact_1 = rw (folded_is c) (folded_in a.word a.source (omega arith) (omega arith)); fact_2 = rw c.apart.ensures (apart_spread a.word a.source) }

pub overflow_add-result : goal.overflow_add-result
overflow_add-result c = let a = c.args in
    let e = sum_is c in
    let t = total_in a.word a.source (omega arith) (omega arith) in
    omega arith

pub returns : goal.returns
returns c = sum_is c
