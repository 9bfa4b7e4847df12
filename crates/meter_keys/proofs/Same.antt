-- Keys that are the same.
use mathlib.Core.Path.{◌≡◌, refl, sym, ap₂}
use mathlib.Core.Bool.{Bool, true, false, true≢false, and-eq-true_iff}
use mathlib.Core.List.{List, [], ◌∷◌}
use Prim.Native.Nat.{ℕ}
use borrow.Author.Tests.{eqb-true, eq-eqb}
use lib.Dec.{eqb}
use Rattle.meter_keys.specs.Keys.{same_key}

-- keys that pass the test are the same
pub same_key_lem : (key other : List ℕ) → same_key key other ≡ true → key ≡ other
unfolding same_key
same_key_lem [] [] e = refl
same_key_lem [] (c ∷ cs) e = absurd (true≢false (sym e))
same_key_lem (b ∷ bs) [] e = absurd (true≢false (sym e))
same_key_lem (b ∷ bs) (c ∷ cs) e =
    let p = (and-eq-true_iff (eqb b c) (same_key bs cs)).0 e in
    ap₂ (λ (x : ℕ) (xs : List ℕ). x ∷ xs) (eqb-true b c p.0) (same_key_lem bs cs p.1)

-- a key is the same as itself
pub key_same : (key : List ℕ) → same_key key key ≡ true
unfolding same_key
key_same [] = refl
key_same (b ∷ bs) = rw (eq-eqb b b refl, key_same bs)

pub key_differs : (key other : List ℕ) → (key ≡ other → ⊥) → same_key key other ≡ false
key_differs key other h = go (same_key key other) refl
  where
    go : (b : Bool) → same_key key other ≡ b → b ≡ false
    go true e = absurd (h (same_key_lem key other e))
    go false e = refl
