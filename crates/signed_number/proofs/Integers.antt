-- Laws of integers as sign and magnitude.
use mathlib.Core.Path.{◌≡◌, refl, sym, ap, ◌∙◌}
use mathlib.Core.Bool.{Bool, true, false, cond, not, beq, true≢false}
use Prim.Native.Nat.{ℕ, zero, suc, ◌+◌, ◌-◌, ◌≤◌, ◌<◌}
use native.Mathlib.Decide.{dec_lt}
use native.Mathlib.Omega.{arith}
use borrow.Author.Tests.{ltb-true, ltb-false, le-ltb}
use lib.Dec.{ltb}
use lib.IntN.{ℤ, pos, negsuc, ◌+ℤ◌, neg_ℤ, nat_abs, sub_ℕ, neg_ℤ-+ℤ, neg_ℤ-neg_ℤ, +ℤ_comm}
use Rattle.signed_number.specs.declared.Signed.{Signed}
use Rattle.signed_number.specs.Number.{times_sign, integer, integer_of, signed_of}

-- the magnitude of a sum is at most the sum of the magnitudes
sub_size : (a b : ℕ) → nat_abs (sub_ℕ a b) ≤ a + b
sub_size a b = go (ltb a b) refl
  where
    go : (c : Bool) → ltb a b ≡ c → nat_abs (cond c (negsuc (b - suc a)) (pos (a - b))) ≤ a + b
    go true e = omega (arith, ltb-true a b e)
    go false e = omega arith

pub triangle : (a b : ℤ) → nat_abs (a +ℤ b) ≤ nat_abs a + nat_abs b
triangle (pos a) (pos b) = omega arith
triangle (pos a) (negsuc b) = sub_size a (suc b)
triangle (negsuc a) (pos b) = omega (arith, sub_size b (suc a))
triangle (negsuc a) (negsuc b) = omega arith

-- a sign leaves the magnitude
pub abs_neg : (v : ℤ) → nat_abs (neg_ℤ v) ≡ nat_abs v
abs_neg (pos zero) = refl
abs_neg (pos (suc n)) = refl
abs_neg (negsuc n) = refl

pub abs_times : (minus : Bool) (v : ℤ) → nat_abs (times_sign minus v) ≡ nat_abs v
unfolding times_sign
abs_times true v = abs_neg v
abs_times false v = refl

pub abs_integer : (minus : Bool) (m : ℕ) → nat_abs (integer minus m) ≡ m
abs_integer minus m = abs_times minus (pos m)

-- signs multiply a sum part by part, and twice the same sign is none
pub times_plus : (minus : Bool) (a b : ℤ) → times_sign minus (a +ℤ b) ≡ times_sign minus a +ℤ times_sign minus b
unfolding times_sign
times_plus true a b = neg_ℤ-+ℤ a b
times_plus false a b = refl

pub times_zero : (minus : Bool) → times_sign minus (pos 0) ≡ pos 0
unfolding times_sign
times_zero true = refl
times_zero false = refl

pub times_twice : (minus : Bool) (a : ℤ) → times_sign minus (times_sign minus a) ≡ a
unfolding times_sign
times_twice true a = neg_ℤ-neg_ℤ a
times_twice false a = refl

-- an integer is that of its sign and magnitude
pub integer_of_lem : (v : ℤ) → integer_of (signed_of v) ≡ v
unfolding times_sign signed_of
integer_of_lem (pos m) = refl
integer_of_lem (negsuc m) = refl

pub magnitude_of : (v : ℤ) → (signed_of v).magnitude ≡ nat_abs v
unfolding signed_of
magnitude_of (pos m) = refl
magnitude_of (negsuc m) = refl

-- sums by sign and magnitude: of one sign, and of two
same_sign : (minus : Bool) (a b : ℕ) (c : Bool) → integer (cond c minus minus) (a + b) ≡ integer minus a +ℤ integer minus b
same_sign minus a b true = times_plus minus (pos a) (pos b)
same_sign minus a b false = times_plus minus (pos a) (pos b)

pub less : (a b : ℕ) → b ≤ a → pos (a - b) ≡ pos a +ℤ neg_ℤ (pos b)
less a zero h = ap pos (omega arith)
less a (suc b) h = rw (le-ltb a (suc b) h)

times_not : (minus : Bool) (v : ℤ) → times_sign (not minus) v ≡ times_sign minus (neg_ℤ v)
unfolding times_sign
times_not true v = sym (neg_ℤ-neg_ℤ v)
times_not false v = refl

difference : (minus : Bool) (a b : ℕ) → b ≤ a → integer minus (a - b) ≡ integer minus a +ℤ integer (not minus) b
difference minus a b h = rw (times_not minus (pos b)) (ap (times_sign minus) (less a b h) ∙ times_plus minus (pos a) (neg_ℤ (pos b)))

-- and of two where the second has the larger magnitude
other_difference : (minus : Bool) (a b : ℕ) → a < b → integer (not minus) (suc (b - suc a)) ≡ integer (not minus) b +ℤ integer (not (not minus)) a
other_difference minus a b h = ap (integer (not minus)) (omega arith) ∙ difference (not minus) b a (omega arith)

two_signs : (minus : Bool) (a b : ℕ) (c : Bool) → ltb a b ≡ c
    → integer (cond c (not minus) minus) (nat_abs (cond c (negsuc (b - suc a)) (pos (a - b)))) ≡ integer minus a +ℤ integer (not minus) b
two_signs true a b true e = other_difference true a b (ltb-true a b e) ∙ +ℤ_comm (integer false b) (integer true a)
two_signs true a b false e = difference true a b (ltb-false a b e)
two_signs false a b true e = other_difference false a b (ltb-true a b e) ∙ +ℤ_comm (integer true b) (integer false a)
two_signs false a b false e = difference false a b (ltb-false a b e)

pub sum_parts : (minus other : Bool) (a b : ℕ)
    → integer (cond (ltb a b) other minus) (cond (beq minus other) (a + b) (nat_abs (sub_ℕ a b))) ≡ integer minus a +ℤ integer other b
sum_parts true true a b = same_sign true a b (ltb a b)
sum_parts true false a b = two_signs true a b (ltb a b) refl
sum_parts false true a b = two_signs false a b (ltb a b) refl
sum_parts false false a b = same_sign false a b (ltb a b)

pub sum_size : (a b : Signed) → (signed_of (integer_of a +ℤ integer_of b)).magnitude ≤ a.magnitude + b.magnitude
sum_size a b =
    omega (
      arith,
      magnitude_of (integer_of a +ℤ integer_of b),
      triangle (integer_of a) (integer_of b),
      abs_integer a.minus a.magnitude,
      abs_integer b.minus b.magnitude,
    )

-- what is known of a sign and magnitude by its integer
pub size_is : (s : Signed) (v : ℤ) → integer_of s ≡ v → s.magnitude ≡ nat_abs v
size_is s v e = sym (abs_integer s.minus s.magnitude) ∙ ap nat_abs e

pub integer_is : (s : Signed) (v : ℤ) → s ≡ signed_of v → integer_of s ≡ v
integer_is s v e = ap integer_of e ∙ integer_of_lem v

pub canonical_is : (s : Signed) (v : ℤ) → s ≡ signed_of v → s ≡ signed_of (integer_of s)
canonical_is s v e = e ∙ ap signed_of (sym (integer_is s v e))

-- zero is plus
pub minus_nonzero : (s : Signed) → s ≡ signed_of (integer_of s) → s.minus ≡ true → 0 < s.magnitude
unfolding signed_of
minus_nonzero s c e = elim (dec_lt 0 s.magnitude) [ yes h ↦ h | no h ↦ absurd (true≢false (sym e ∙ zero_plus (omega arith))) ]
  where
    zero_plus : s.magnitude ≡ 0 → s.minus ≡ false
    zero_plus z = ap (λ (t : Signed). t.minus) (c ∙ ap (λ (m : ℕ). signed_of (integer s.minus m)) z ∙ ap signed_of (times_zero s.minus))
