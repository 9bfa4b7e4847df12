-- What the reader's functions leave. The code's own terms.
use Rattle.std.specs.Prelude.{ℕ, ◌%◌, List, map, take, drop}

-- the low bytes of n words from a position on
abbrev pub lows : List ℕ → ℕ → ℕ → List ℕ
lows words p n = map (λ (x : ℕ). x % 256) (take n (drop p words))
