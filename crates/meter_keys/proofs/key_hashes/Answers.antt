use mathlib.Core.Path.{◌≡◌}
use mathlib.Core.List.{List, [], ◌∷◌}
use Prim.Native.Nat.{ℕ}
use native.Mathlib.Decide.{dec_lt}
use native.Mathlib.Omega.{arith}
use Rattle.hash.specs.Hash.{row_hash}
use Rattle.meter_keys.proofs.Lanes.{in_four, in_eight}
use Rattle.meter_keys.proofs.key_hashes.Goals as goal

pub returns-then-d-eq1 : goal.returns-then-d-eq1
returns-then-d-eq1 c = λ r h. let first : r ≡ 0 = omega arith in rw first c.in_row-only.ensures

pub returns-then-d-le4 : goal.returns-then-d-le4
returns-then-d-le4 c = let a = c.args in
    let e = c.four_hashes-low.ensures in
    let rest : List ℕ = 0 ∷ 0 ∷ 0 ∷ 0 ∷ [] in
    λ r h. in_four (λ (i : ℕ) (x : ℕ). x ≡ row_hash a.start.state i a.key.now) _ _ _ _ rest
    (e 0 (omega arith)) (e 1 (omega arith)) (e 2 (omega arith)) (e 3 (omega arith)) r (omega arith)

pub returns-then-d-eq5 : goal.returns-then-d-eq5
returns-then-d-eq5 c = let a = c.args in
    let e = c.four_hashes-low.ensures in
    let rest : List ℕ = c.in_row-fifth.result.state ∷ 0 ∷ 0 ∷ 0 ∷ [] in
    λ r h. elim (dec_lt r 4) [
      | yes l ↦ in_four (λ (i : ℕ) (x : ℕ). x ≡ row_hash a.start.state i a.key.now) _ _ _ _ rest
          (e 0 (omega arith)) (e 1 (omega arith)) (e 2 (omega arith)) (e 3 (omega arith)) r l
      | no l ↦ let four : r ≡ 4 = omega arith in rw four c.in_row-fifth.ensures
    ]

pub returns : goal.returns
returns c = let a = c.args in
    let e = c.four_hashes-low.ensures in
    let f = c.four_hashes-high.ensures in
    λ r h. in_eight (λ (i : ℕ) (x : ℕ). x ≡ row_hash a.start.state i a.key.now) _ _ _ _ _ _ _ _
    (e 0 (omega arith)) (e 1 (omega arith)) (e 2 (omega arith)) (e 3 (omega arith))
    (f 0 (omega arith)) (f 1 (omega arith)) (f 2 (omega arith)) (f 3 (omega arith)) r (omega arith)
