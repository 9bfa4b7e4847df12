-- A call's tests taken one by one, what a call then answers, and a memory of zeros.
use mathlib.Core.Path.{◌≡◌, ap, ◌∙◌}
use mathlib.Core.List.{List, [], ◌∷◌, ◌++◌}
use Prim.Native.Nat.{ℕ, ◌+◌, ◌<◌}
use native.Mathlib.Numerals.{add-one}
use lib.ListN.{length, take, set, replicate, replicate-append-replicate}
use lib.Seq.{take-suc-set}

-- a memory of zeros, byte by byte
pub zeros_turn : (memory : List ℕ) (i : ℕ) → i < length memory → take i memory ≡ replicate i 0 → take (i + 1) (set memory i 0) ≡ replicate (i + 1) 0
zeros_turn memory i h e =
    ap (λ (n : ℕ). take n (set memory i 0)) (add-one i)
    ∙ take-suc-set memory i 0 h
    ∙ ap (λ (l : List ℕ). l ++ (0 ∷ [])) e
    ∙ replicate-append-replicate i 1 0
