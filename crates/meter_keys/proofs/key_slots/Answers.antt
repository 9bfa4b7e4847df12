use mathlib.Core.Path.{◌≡◌}
use mathlib.Core.List.{List, [], ◌∷◌}
use Prim.Native.Nat.{ℕ, ◌<◌}
use native.Mathlib.Omega.{arith}
use Rattle.meter_keys.specs.Keys.{key_slot}
use Rattle.meter_keys.proofs.Lanes.{in_four, in_eight}
use Rattle.meter_keys.proofs.key_slots.Goals as goal

pub returns-then-d-le4 : goal.returns-then-d-le4
returns-then-d-le4 c = let a = c.args in
    let e = c.four_slots-low.ensures.by_index in
    let l = c.four_slots-low.ensures.by_index_2 in
    let rest : List ℕ = 0 ∷ 0 ∷ 0 ∷ 0 ∷ [] in record {
      by_index = λ r h. in_four (λ (i : ℕ) (s : ℕ). s ≡ key_slot a.start.state a.w a.key.now i) _ _ _ _ rest
          (e 0 (omega arith)) (e 1 (omega arith)) (e 2 (omega arith)) (e 3 (omega arith)) r (omega arith);
      by_index_2 = λ r h. in_four (λ (i : ℕ) (s : ℕ). s < a.w) _ _ _ _ rest
          (l 0 (omega arith)) (l 1 (omega arith)) (l 2 (omega arith)) (l 3 (omega arith)) r (omega arith);
    }

pub returns : goal.returns
returns c = let a = c.args in
    let e = c.four_slots-low.ensures.by_index in
    let f = c.four_slots-high.ensures.by_index in
    let l = c.four_slots-low.ensures.by_index_2 in
    let m = c.four_slots-high.ensures.by_index_2 in record {
      by_index = λ r h. in_eight (λ (i : ℕ) (s : ℕ). s ≡ key_slot a.start.state a.w a.key.now i) _ _ _ _ _ _ _ _
          (e 0 (omega arith)) (e 1 (omega arith)) (e 2 (omega arith)) (e 3 (omega arith))
          (f 0 (omega arith)) (f 1 (omega arith)) (f 2 (omega arith)) (f 3 (omega arith)) r (omega arith);
      by_index_2 = λ r h. in_eight (λ (i : ℕ) (s : ℕ). s < a.w) _ _ _ _ _ _ _ _
          (l 0 (omega arith)) (l 1 (omega arith)) (l 2 (omega arith)) (l 3 (omega arith))
          (m 0 (omega arith)) (m 1 (omega arith)) (m 2 (omega arith)) (m 3 (omega arith)) r (omega arith);
    }
