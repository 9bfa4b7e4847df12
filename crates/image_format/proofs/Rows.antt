-- Walks over the rows of a memory, one law for all of them: those that test, that count words, that write and that read.
use mathlib.Core.Path.{◌≡◌, ap, ◌∙◌}
use mathlib.Core.List.{List}
use Prim.Native.Nat.{ℕ, suc, ◌+◌, ◌-◌, ◌*◌, ◌<◌}
use native.Mathlib.Omega.{arith}
use lib.ListN.{take, drop}
use Rattle.meter_memory.proofs.Lists.{drop_row}

-- `walk n memory` goes over n rows of s bytes: by `step` over the first, and then over those behind it. From row r on, it goes over row r.
pub rows_turn : {X : Type 0} (walk : ℕ → List ℕ → X) (step : List ℕ → X → X) (s : ℕ)
    → ((n : ℕ) (memory : List ℕ) → walk (suc n) memory ≡ step (take s memory) (walk n (drop s memory)))
    → (memory : List ℕ) (d r : ℕ) → r < d
    → walk (d - r) (drop (r * s) memory) ≡ step (take s (drop (r * s) memory)) (walk (d - (r + 1)) (drop ((r + 1) * s) memory))
rows_turn walk step s first memory d r h =
    let e : d - r ≡ suc (d - (r + 1)) = omega arith in
    ap (λ (n : ℕ). walk n (drop (r * s) memory)) e ∙ first (d - (r + 1)) (drop (r * s) memory)
    ∙ ap (λ (l : List ℕ). step (take s (drop (r * s) memory)) (walk (d - (r + 1)) l)) (drop_row memory r s)
