-- Laws of the order of refusals.
use mathlib.Core.Path.{◌≡◌, refl, sym, ◌∙◌}
use mathlib.Core.Bool.{cond}
use mathlib.Core.List.{List, [], ◌∷◌, ◌++◌}
use Prim.Native.Nat.{ℕ, zero, suc, ◌≤◌, ◌<◌}
use native.Mathlib.Omega.{arith}
use native.Mathlib.Decide.{dec_le}
use mathlib.Core.Logic.{◌⊎◌, inl, inr, ⊎_elim}
use borrow.Author.Tests.{le-leb, lt-leb}
use lib.Dec.{leb}
use Rattle.answer.specs.Numbers.{order}
use Rattle.answer.specs.Order.{first_of, place_in, earlier}

pub earlier_none : (a : ℕ) → earlier a 0 ≡ a
unfolding earlier
earlier_none zero = refl
earlier_none (suc a) = refl

-- of two refusals the one that stands first in the list
pub earlier_first : (a b : ℕ) → 0 < a → 0 < b → earlier a b ≡ cond (leb (place_in order a) (place_in order b)) a b
unfolding earlier
earlier_first zero b h k = absurd (omega arith)
earlier_first (suc a) zero h k = absurd (omega arith)
earlier_first (suc a) (suc b) h k = refl

-- of two numbers the one with the smaller place, the left one of equals
unfoldable pick : (ℕ → ℕ) → ℕ → ℕ → ℕ
pick place a b = cond (leb (place a) (place b)) a b

pick_cases : (place : ℕ → ℕ) (a b : ℕ) → ((place a ≤ place b) × (pick place a b ≡ a)) ⊎ ((place b < place a) × (pick place a b ≡ b))
unfolding pick
pick_cases place a b = elim (dec_le (place a) (place b)) [ yes l ↦ inl (l, rw (le-leb (place a) (place b) l)) | no l ↦ inr (omega arith, rw (lt-leb (place a) (place b) (omega arith))) ]

pick_left : (place : ℕ → ℕ) (a b : ℕ) → place a ≤ place b → pick place a b ≡ a
unfolding pick
pick_left place a b h = rw (le-leb (place a) (place b) h)

pick_right : (place : ℕ → ℕ) (a b : ℕ) → place b < place a → pick place a b ≡ b
unfolding pick
pick_right place a b h = rw (lt-leb (place a) (place b) h)

pick_assoc : (place : ℕ → ℕ) (a b c : ℕ) → pick place (pick place a b) c ≡ pick place a (pick place b c)
pick_assoc place a b c =
    ⊎_elim
    (λ p. ⊎_elim (λ q. rw (p.1, q.1) (pick_left place a c (omega (arith, p.0, q.0)) ∙ sym p.1))
    (λ q. rw (p.1, q.1)) (pick_cases place b c))
    (λ p. ⊎_elim (λ q. rw (p.1, q.1) (sym p.1)) (λ q. rw (p.1, q.1) (sym (pick_right place a c (omega (arith, p.0, q.0))))) (pick_cases place b c))
    (pick_cases place a b)

pick_pos : (place : ℕ → ℕ) (a b : ℕ) → 0 < pick place (suc a) (suc b)
pick_pos place a b = ⊎_elim (λ p. omega (arith, p.1)) (λ p. omega (arith, p.1)) (pick_cases place (suc a) (suc b))

abbrev place : ℕ → ℕ
place s = place_in order s

-- which of several groups' statuses comes first does not depend on how they are taken together
pub earlier_assoc : (a b c : ℕ) → earlier (earlier a b) c ≡ earlier a (earlier b c)
unfolding earlier pick
earlier_assoc zero b c = refl
earlier_assoc (suc a) zero c = refl
earlier_assoc (suc a) (suc b) zero = earlier_none (pick place (suc a) (suc b))
earlier_assoc (suc a) (suc b) (suc c) =
    earlier_first (pick place (suc a) (suc b)) (suc c) (pick_pos place a b) (omega arith)
    ∙ pick_assoc place (suc a) (suc b) (suc c)
    ∙ sym (earlier_first (suc a) (pick place (suc b) (suc c)) (omega arith) (pick_pos place b c))

-- no refusal comes of none
pub none_earlier : (a b : ℕ) → earlier a b ≡ 0 → (a ≡ 0) × (b ≡ 0)
unfolding earlier pick
none_earlier zero b e = (refl, e)
none_earlier (suc a) zero e = absurd (omega arith)
none_earlier (suc a) (suc b) e = absurd (omega (arith, pick_pos place a b, e))

-- tests in checking order, taken in two parts
pub first_rest : (xs ys : List ℕ) → first_of xs ≡ 0 → first_of (xs ++ ys) ≡ first_of ys
unfolding first_of
first_rest [] ys e = refl
first_rest (zero ∷ xs) ys e = first_rest xs ys e
first_rest (suc s ∷ xs) ys e = absurd (omega arith)

pub first_part : (xs ys : List ℕ) → 0 < first_of xs → first_of (xs ++ ys) ≡ first_of xs
unfolding first_of
first_part [] ys e = absurd (omega arith)
first_part (zero ∷ xs) ys e = first_part xs ys e
first_part (suc s ∷ xs) ys e = refl

pub first_one : (s : ℕ) → first_of (s ∷ []) ≡ s
unfolding first_of
first_one zero = refl
first_one (suc s) = refl

-- one by one
pub first_stop : (s : ℕ) (ss : List ℕ) → (s ≡ 0 → ⊥) → first_of (s ∷ ss) ≡ s
unfolding first_of
first_stop zero ss h = absurd (h refl)
first_stop (suc s) ss h = refl

pub first_skip : (s : ℕ) (ss : List ℕ) → s ≡ 0 → first_of (s ∷ ss) ≡ first_of ss
unfolding first_of
first_skip zero ss h = refl
first_skip (suc s) ss h = absurd (omega arith)

pub none_first : (s : ℕ) (ss : List ℕ) → first_of (s ∷ ss) ≡ 0 → (s ≡ 0) × (first_of ss ≡ 0)
unfolding first_of
none_first zero ss e = (refl, e)
none_first (suc s) ss e = absurd (omega arith)
