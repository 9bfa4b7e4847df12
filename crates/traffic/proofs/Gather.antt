-- Laws of lists that are gathered over rows and groups.
use mathlib.Core.Path.{◌≡◌, refl, ap}
use mathlib.Core.List.{List, [], ◌∷◌}
use Prim.Native.Nat.{ℕ, zero, suc, ◌+◌, ◌*◌, ◌≤◌, ◌<◌, min}
use native.Mathlib.Nat.{zero-mul}
use native.Mathlib.Decide.{ℕ_discrete}
use native.Mathlib.Omega.{arith}
use lib.ListN.{take, drop}
use Rattle.geometry.specs.Geometry.{stride}
use Rattle.answer.specs.Order.{earlier, earliest}
use Rattle.meter_memory.specs.Rows.{of_rows, of_groups, least_or, least, largest}
use Rattle.meter.specs.Meter.{row_of}
use Rattle.meter_memory.proofs.Lists.{drop_row}
use Rattle.traffic.specs.Traffic.{least_below}

-- what is read of rows, by the rows' numbers
by_number : (f : ℕ → List ℕ → ℕ) (s n r : ℕ) (memory : List ℕ)
    → of_rows f s n r (drop (r * s) memory) ≡ of_groups (λ k. f k (take s (drop (k * s) memory))) n r
unfolding of_rows of_groups
by_number f s zero r memory = refl
by_number f s (suc n) r memory =
    rw (drop_row memory r s) (ap (λ (xs : List ℕ). f r (take s (drop (r * s) memory)) ∷ xs) (by_number f s n (r + 1) memory))

pub rows_are : (f : ℕ → List ℕ → ℕ) (d w : ℕ) (memory : List ℕ) → of_rows f (stride w) d 0 memory ≡ of_groups (λ r. f r (row_of w memory r)) d 0
unfolding row_of
rows_are f d w memory = rw (zero-mul (stride w)) at (by_number f (stride w) d 0 memory)

-- a fact of each of n numbers from k on
abbrev pub All : (ℕ → Type 0) → ℕ → ℕ → Type 0
All P n k = (i : ℕ) → k ≤ i → i < k + n → P i

rest : {P : ℕ → Type 0} (n k : ℕ) → All P (suc n) k → All P n (k + 1)
rest n k h i p q = h i (omega arith) (omega arith)

pub none_earliest : (f : ℕ → ℕ) (n k : ℕ) → All (λ i. f i ≡ 0) n k → earliest (of_groups f n k) ≡ 0
unfolding of_groups earliest earlier
none_earliest f zero k h = refl
none_earliest f (suc n) k h = rw (h k (omega arith) (omega arith)) (none_earliest f n (k + 1) (rest n k h))

pub largest_le : (f : ℕ → ℕ) (b n k : ℕ) → All (λ i. f i ≤ b) n k → largest (of_groups f n k) ≤ b
unfolding of_groups largest
largest_le f b zero k h = omega arith
largest_le f b (suc n) k h = omega (arith, h k (omega arith) (omega arith), largest_le f b n (k + 1) (rest n k h))

pub le_largest : (f : ℕ → ℕ) (n k : ℕ) → All (λ i. f i ≤ largest (of_groups f n k)) n k
unfolding of_groups largest
le_largest f zero k i p q = absurd (omega arith)
le_largest f (suc n) k i p q = elim (ℕ_discrete i k) [ yes e ↦ rw e (omega arith) | no e ↦ omega (arith, le_largest f n (k + 1) i (omega arith) (omega arith)) ]

-- the least of a number and others
or_le : (v : ℕ) (xs : List ℕ) → least_or v xs ≤ v
unfolding least_or
or_le v [] = omega arith
or_le v (x ∷ xs) = omega (arith, or_le (min v x) xs)

le_or : (f : ℕ → ℕ) (b v n k : ℕ) → b ≤ v → All (λ i. b ≤ f i) n k → b ≤ least_or v (of_groups f n k)
unfolding of_groups least_or
le_or f b v zero k h a = h
le_or f b v (suc n) k h a = le_or f b (min v (f k)) n (k + 1) (omega (arith, a k (omega arith) (omega arith))) (rest n k a)

or_le_each : (f : ℕ → ℕ) (v n k : ℕ) → All (λ i. least_or v (of_groups f n k) ≤ f i) n k
unfolding of_groups least_or
or_le_each f v zero k i p q = absurd (omega arith)
or_le_each f v (suc n) k i p q =
    elim (ℕ_discrete i k) [
      | yes e ↦ rw e (omega (arith, or_le (min v (f k)) (of_groups f n (k + 1))))
      | no e ↦ or_le_each f (min v (f k)) n (k + 1) i (omega arith) (omega arith)
    ]

pub le_least : (f : ℕ → ℕ) (b n k : ℕ) → 1 ≤ n → All (λ i. b ≤ f i) n k → b ≤ least (of_groups f n k)
unfolding of_groups least
le_least f b zero k h a = absurd (omega arith)
le_least f b (suc n) k h a = le_or f b (f k) n (k + 1) (a k (omega arith) (omega arith)) (rest n k a)

pub least_le : (f : ℕ → ℕ) (n k : ℕ) → All (λ i. least (of_groups f n k) ≤ f i) n k
unfolding of_groups least
least_le f zero k i p q = absurd (omega arith)
least_le f (suc n) k i p q =
    elim (ℕ_discrete i k) [ yes e ↦ rw e (or_le (f k) (of_groups f n (k + 1))) | no e ↦ or_le_each f (f k) n (k + 1) i (omega arith) (omega arith) ]

pub le_least_below : (f : ℕ → ℕ) (b n : ℕ) → 1 ≤ n → ((i : ℕ) → i < n → b ≤ f i) → b ≤ least_below n f
unfolding least_below
le_least_below f b zero h a = absurd (omega arith)
le_least_below f b (suc zero) h a = a 0 (omega arith)
le_least_below f b (suc (suc n)) h a = omega (arith, a (suc n) (omega arith), le_least_below f b (suc n) (omega arith) (λ i p. a i (omega arith)))
