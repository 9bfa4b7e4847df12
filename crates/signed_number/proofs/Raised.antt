-- Integers as natural numbers, raised by a number that is large enough; differences of natural numbers.
use mathlib.Core.Path.{◌≡◌, refl, sym, ap, ap₂, ◌∙◌}
use Prim.Native.Nat.{ℕ, zero, suc, ◌+◌, ◌-◌, ◌≤◌, ◌<◌}
use native.Mathlib.Decide.{dec_lt}
use native.Mathlib.Omega.{arith}
use borrow.Author.Tests.{lt-ltb, le-ltb}
use lib.IntN.{ℤ, pos, ◌+ℤ◌, neg_ℤ, nat_abs, sub_ℕ, neg_ℤ-+ℤ, +ℤ_assoc, +ℤ_comm}
use Rattle.signed_number.proofs.Integers.{less}

-- a difference of two numbers, by its sign
pub sub_plus : (a b : ℕ) → b ≤ a → sub_ℕ a b ≡ pos (a - b)
sub_plus a b h = rw (le-ltb a b h)

pub sub_minus : (a b : ℕ) → a < b → sub_ℕ a b ≡ neg_ℤ (pos (b - a))
sub_minus a b h = let e : b - a ≡ suc (b - suc a) = omega arith in rw (lt-ltb a b h, e)

pub sub_size : (a b : ℕ) → nat_abs (sub_ℕ a b) ≡ (a - b) + (b - a)
sub_size a b = elim (dec_lt a b) [
  | yes h ↦ rw (lt-ltb a b h) (omega arith)
  | no h ↦ rw (le-ltb a b (omega arith)) (omega arith)
]

sub_is : (a b : ℕ) → sub_ℕ a b ≡ pos a +ℤ neg_ℤ (pos b)
sub_is a zero = sub_plus a zero (omega arith) ∙ ap pos (omega arith)
sub_is a (suc b) = refl

-- of two sums, the sum of two differences
swap : (a b c : ℤ) → (a +ℤ b) +ℤ c ≡ (a +ℤ c) +ℤ b
swap a b c = +ℤ_assoc a b c ∙ ap (λ (x : ℤ). a +ℤ x) (+ℤ_comm b c) ∙ sym (+ℤ_assoc a c b)

pub sub_add : (a b p q : ℕ) → sub_ℕ (a + b) (p + q) ≡ sub_ℕ a p +ℤ sub_ℕ b q
sub_add a b p q =
    let x = neg_ℤ (pos p) in
    let y = neg_ℤ (pos q) in
    sub_is (a + b) (p + q)
    ∙ ap (λ (v : ℤ). pos (a + b) +ℤ v) (neg_ℤ-+ℤ (pos p) (pos q))
    ∙ sym (+ℤ_assoc (pos a +ℤ pos b) x y)
    ∙ ap (λ (v : ℤ). v +ℤ y) (swap (pos a) (pos b) x)
    ∙ +ℤ_assoc (pos a +ℤ x) (pos b) y
    ∙ ap₂ (λ (u v : ℤ). u +ℤ v) (sym (sub_is a p)) (sym (sub_is b q))

-- x is v raised by t
abbrev pub Raised : ℕ → ℕ → ℤ → Type 0
Raised t x v = sub_ℕ x t ≡ v

pub raise_plus : (t m : ℕ) → Raised t (t + m) (pos m)
raise_plus t m = sub_plus (t + m) t (omega arith) ∙ ap pos (omega arith)

pub raise_minus : (t m : ℕ) → m ≤ t → Raised t (t - m) (neg_ℤ (pos m))
raise_minus t m h = elim (dec_lt 0 m) [
  | yes l ↦ let e : t - (t - m) ≡ m = omega arith in sub_minus (t - m) t (omega arith) ∙ ap (λ (x : ℕ). neg_ℤ (pos x)) e
  | no l ↦
      let e : t - m ≡ t = omega arith in
      let z : m ≡ 0 = omega arith in
      rw (e, z) (sub_plus t t (omega arith) ∙ ap pos (omega arith))
]

-- sums
pub raised_more : (t x m : ℕ) (v : ℤ) → Raised t x v → Raised t (x + m) (v +ℤ pos m)
raised_more t x m v r =
    sub_is (x + m) t ∙ swap (pos x) (pos m) (neg_ℤ (pos t)) ∙ ap (λ (z : ℤ). z +ℤ pos m) (sym (sub_is x t) ∙ r)

pub raised_less : (t x m : ℕ) (v : ℤ) → m ≤ x → Raised t x v → Raised t (x - m) (v +ℤ neg_ℤ (pos m))
raised_less t x m v h r =
    sub_is (x - m) t
    ∙ ap (λ (z : ℤ). z +ℤ neg_ℤ (pos t)) (less x m h)
    ∙ swap (pos x) (neg_ℤ (pos m)) (neg_ℤ (pos t))
    ∙ ap (λ (z : ℤ). z +ℤ neg_ℤ (pos m)) (sym (sub_is x t) ∙ r)

-- an integer by its raised number, and its magnitude
module _ (t x : ℕ) (v : ℤ) (r : Raised t x v) where
  pub raised_plus : t ≤ x → v ≡ pos (x - t)
  raised_plus h = sym r ∙ sub_plus x t h

  pub raised_minus : x < t → v ≡ neg_ℤ (pos (t - x))
  raised_minus h = sym r ∙ sub_minus x t h

  pub raised_size : nat_abs v ≡ (x - t) + (t - x)
  raised_size = ap nat_abs (sym r) ∙ sub_size x t

  -- more taken away than there is: at least t is taken from 0
  pub sunken_size : (m : ℕ) → x ≤ m → t ≤ nat_abs (v +ℤ neg_ℤ (pos m))
  sunken_size m h =
      let e : v +ℤ neg_ℤ (pos m) ≡ sub_ℕ x (t + m) =
      ap (λ (z : ℤ). z +ℤ neg_ℤ (pos m)) (sym r ∙ sub_is x t)
      ∙ +ℤ_assoc (pos x) (neg_ℤ (pos t)) (neg_ℤ (pos m))
      ∙ ap (λ (z : ℤ). pos x +ℤ z) (sym (neg_ℤ-+ℤ (pos t) (pos m)))
      ∙ sym (sub_is x (t + m)) in
      omega (arith, ap nat_abs e, sub_size x (t + m))
