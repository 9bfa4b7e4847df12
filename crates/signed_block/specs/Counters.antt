-- The counters of a signed meter obey what those of any kind of meter do. Cited by contracts.
use mathlib.Core.Path.{◌≡◌, refl, sym, ap, ◌∙◌}
use mathlib.Core.Bool.{Bool, true, false, cond, not, true≢false}
use Prim.Native.Nat.{ℕ, zero, suc, ◌+◌, ◌-◌, ◌*◌, ◌^◌, ◌≤◌, ◌<◌}
use native.Mathlib.Decide.{dec_lt}
use native.Mathlib.Omega.{arith}
use borrow.Author.Tests.{lt-ltb, le-ltb, ltb-true, ltb-false, ne_eqb, eq-eqb}
use lib.Dec.{ltb}
use lib.Pow.{pow_pos, pow_mono}
use lib.IntN.{ℤ, pos, negsuc, neg_ℤ, nat_abs, +ℤ_comm, +ℤ_assoc}
use Rattle.group_block.specs.Kind.{cap}
use Rattle.group_block.specs.Figure.{Sums, Codes, Coded}
use Rattle.signed_number.specs.declared.Signed.{Signed}
use Rattle.signed_number.specs.Number.{integer_of, signed_of}
use Rattle.signed_number.proofs.Integers.{triangle, abs_neg, integer_is}
use Rattle.signed_block.specs.Signed.{top, sign_bits, sign_read, not_minus_zero, signed}

-- the sign bit and the magnitude are the counter's bits
pub top_twice : (n : ℕ) → top n + top n ≡ cap n
unfolding top cap
top_twice n =
    let e : 8 * 2 ^ n ≡ suc (8 * 2 ^ n - 1) = omega (arith, pow_pos n) in
    omega (arith, ap (λ (k : ℕ). 2 ^ k) e)

pub top_pos : (n : ℕ) → 0 < top n
unfolding top
top_pos n = pow_pos (8 * 2 ^ n - 1)

cap_top : (n : ℕ) → cap n ≤ top (suc n)
unfolding top cap
cap_top n = pow_mono {i = 8 * 2 ^ n} {j = 8 * 2 ^ suc n - 1} (omega (arith, pow_pos n))

pub top_double : (n : ℕ) → top n + top n ≤ top (suc n)
top_double n = rw (top_twice n) (cap_top n)

pub signed_sums : Sums signed
signed_sums = record { comm = +ℤ_comm; assoc = +ℤ_assoc; triangle = triangle; double = top_double }

-- sign and magnitude as bits
bits_lt : (n : ℕ) (v : ℤ) → nat_abs v < top n → sign_bits n v < cap n
unfolding sign_bits
bits_lt n (pos m) h = omega (arith, top_twice n)
bits_lt n (negsuc m) h = omega (arith, top_twice n)

bits_clean : (n : ℕ) (v : ℤ) → nat_abs v < top n → not_minus_zero n (sign_bits n v) ≡ true
unfolding sign_bits not_minus_zero
bits_clean n (pos m) h = rw (ne_eqb m (top n) (λ e. omega arith))
bits_clean n (negsuc m) h = rw (ne_eqb (top n + suc m) (top n) (λ e. omega arith))

pub read_minus : (n w : ℕ) → top n ≤ w → sign_read n w ≡ neg_ℤ (pos (w - top n))
unfolding sign_read
read_minus n w h = rw (le-ltb w (top n) h)

read_bits : (n : ℕ) (v : ℤ) → nat_abs v < top n → sign_read n (sign_bits n v) ≡ v
unfolding sign_bits sign_read
read_bits n (pos m) h = rw (lt-ltb m (top n) h)
read_bits n (negsuc m) h =
    let e : top n + suc m - top n ≡ suc m = omega arith in
    read_minus n (top n + suc m) (omega arith) ∙ ap (λ (k : ℕ). neg_ℤ (pos k)) e

read_holds : (n w : ℕ) → w < cap n → nat_abs (sign_read n w) < top n
unfolding sign_read
read_holds n w h = go (ltb w (top n)) refl
  where
    go : (c : Bool) → ltb w (top n) ≡ c → nat_abs (cond c (pos w) (neg_ℤ (pos (w - top n)))) < top n
    go true e = ltb-true w (top n) e
    go false e = rw (abs_neg (pos (w - top n))) (omega (arith, top_twice n, top_pos n))

pub bits_neg : (n m : ℕ) → 0 < m → sign_bits n (neg_ℤ (pos m)) ≡ top n + m
unfolding sign_bits
bits_neg n zero h = absurd (omega arith)
bits_neg n (suc m) h = refl

-- bits that are not minus zero are those of the value that they stand for
bits_read : (n w : ℕ) → w < cap n → not_minus_zero n w ≡ true → sign_bits n (sign_read n w) ≡ w
unfolding sign_read sign_bits not_minus_zero
bits_read n w h c = go (ltb w (top n)) refl
  where
    other : w ≡ top n → ⊥
    other e = true≢false (sym c ∙ ap not (eq-eqb w (top n) e))

    go : (b : Bool) → ltb w (top n) ≡ b → sign_bits n (cond b (pos w) (neg_ℤ (pos (w - top n)))) ≡ w
    go true e = refl
    go false e =
        let p = ltb-false w (top n) e in
        let m : 0 < w - top n = elim (dec_lt (top n) w) [ yes l ↦ omega arith | no l ↦ absurd (other (omega arith)) ] in
        bits_neg n (w - top n) m ∙ omega arith

pub signed_codes : Codes signed
signed_codes = record { bound_le = λ n. omega (arith, top_twice n); bits_lt = bits_lt; bits_clean = bits_clean; read_bits = read_bits; read_holds = read_holds; bits_read = bits_read }

-- a sign and a magnitude stand for the integer that they are made of
pub signed_coded : Coded signed (λ (s : Signed). integer_of s) (λ (v : ℤ). signed_of v)
signed_coded = record { sums = signed_sums; codes = signed_codes; means_made = λ v. integer_is (signed_of v) v refl }
