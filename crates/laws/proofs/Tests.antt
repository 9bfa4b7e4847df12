-- Tests: one of two that holds, two that agree both ways, and one passed by every number below a bound, shown by computation.
use mathlib.Core.Path.{◌≡◌, refl, sym}
use mathlib.Core.Bool.{Bool, true, false, ◌&&◌, ◌||◌, and-eq-true_iff}
use mathlib.Core.Logic.{◌⊎◌, inl, inr}
use Prim.Native.Nat.{ℕ, zero, suc, ◌<◌}
use native.Mathlib.Decide.{dec_lt}
use native.Mathlib.Omega.{arith}

pub or_cases : (a b : Bool) → (a || b) ≡ true → (a ≡ true) ⊎ (b ≡ true)
or_cases true b e = inl refl
or_cases false b e = inr e

pub both_ways : (p q : Bool) → (p ≡ true → q ≡ true) → (q ≡ true → p ≡ true) → p ≡ q
both_ways true q f g = sym (f refl)
both_ways false true f g = g refl
both_ways false false f g = refl

unfoldable pub every : (ℕ → Bool) → ℕ → Bool
every p zero = true
every p (suc n) = p n && every p n

pub every_at : (p : ℕ → Bool) (n m : ℕ) → every p n ≡ true → m < n → p m ≡ true
unfolding every
every_at p zero m e h = absurd (omega arith)
every_at p (suc n) m e h =
    let s = (and-eq-true_iff (p n) (every p n)).0 e in
    elim (dec_lt m n) [ yes l ↦ every_at p n m s.1 l | no l ↦ let i : m ≡ n = omega arith in rw i s.0 ]
