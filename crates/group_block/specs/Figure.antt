-- The values of counters as the code has them, figures, and what they obey, for any kind of meter. Cited by contracts.
use Rattle.std.specs.Prelude.{ℕ, suc, ◌+◌, ◌*◌, ◌^◌, ◌≡◌, ◌≤◌, ◌<◌, true, refl}
use mathlib.Core.Path.{ap, ◌∙◌}
use native.Mathlib.Nat.{mul-le-mul_left}
use native.Mathlib.Omega.{arith}
use lib.Pow.{pow_pos, pow_mono, pow-add}
use Rattle.group_block.specs.Kind.{Kind, ordinary, cap}

-- what the laws of blocks ask of a kind of meter
pub record Sums (K : Kind) : Type 0 where
  pub comm : (a b : K.Value) → K.plus a b ≡ K.plus b a
  pub assoc : (a b c : K.Value) → K.plus (K.plus a b) c ≡ K.plus a (K.plus b c)
  pub triangle : (a b : K.Value) → K.size (K.plus a b) ≤ K.size a + K.size b
  pub double : (n : ℕ) → K.bound n + K.bound n ≤ K.bound (suc n)

-- what its counters as bits obey
pub record Codes (K : Kind) : Type 0 where
  pub bound_le : (n : ℕ) → K.bound n ≤ cap n
  pub bits_lt : (n : ℕ) (v : K.Value) → K.size v < K.bound n → K.bits n v < cap n
  pub bits_clean : (n : ℕ) (v : K.Value) → K.size v < K.bound n → K.clean n (K.bits n v) ≡ true
  pub read_bits : (n : ℕ) (v : K.Value) → K.size v < K.bound n → K.read n (K.bits n v) ≡ v
  pub read_holds : (n w : ℕ) → w < cap n → K.size (K.read n w) < K.bound n
  pub bits_read : (n w : ℕ) → w < cap n → K.clean n w ≡ true → K.bits n (K.read n w) ≡ w

-- and its figures, each of which means a value: the one that is made of a value means it
pub record Coded {F : Type 0} (K : Kind) (means : F → K.Value) (made : K.Value → F) : Type 0 where
  pub sums : Sums K
  pub codes : Codes K
  pub means_made : (v : K.Value) → means (made v) ≡ v

pub cap_pos : (n : ℕ) → 0 < cap n
unfolding cap
cap_pos n = pow_pos (8 * 2 ^ n)

-- a block holds as many bits as its halves
pub cap_square : (n : ℕ) → cap (suc n) ≡ cap n * cap n
unfolding cap
cap_square n = ap (λ (k : ℕ). 2 ^ k) (omega arith) ∙ pow-add 2 (8 * 2 ^ n) (8 * 2 ^ n)

-- two halves that fit make a sum that fits
pub cap_double : (n : ℕ) → cap n + cap n ≤ cap (suc n)
unfolding cap
cap_double n =
    let two : 2 ≤ cap n = pow_mono {i = 1} {j = 8 * 2 ^ n} (omega (arith, pow_pos n)) in
    rw (cap_square n) (omega (arith, mul-le-mul_left (cap n) two))

-- the ordinary meter, whose figures are its values
pub ordinary_sums : Sums ordinary
ordinary_sums = record {
  comm = λ a b. omega arith;
  assoc = λ a b c. omega arith;
  triangle = λ a b. omega arith;
  double = cap_double;
}

pub ordinary_codes : Codes ordinary
ordinary_codes = record {
  bound_le = λ n. omega arith;
  bits_lt = λ n v h. h;
  bits_clean = λ n v h. refl;
  read_bits = λ n v h. refl;
  read_holds = λ n w h. h;
  bits_read = λ n w h c. refl;
}

pub ordinary_coded : Coded ordinary (λ (v : ℕ). v) (λ (v : ℕ). v)
ordinary_coded = record { sums = ordinary_sums; codes = ordinary_codes; means_made = λ v. refl }
