-- Integers raised by a bias.
use mathlib.Core.Path.{◌≡◌, ap, ap₂, ◌∙◌}
use Prim.Native.Nat.{ℕ, suc, ◌+◌, ◌-◌, ◌^◌, ◌≤◌, ◌<◌}
use native.Mathlib.Numerals.{add-one}
use native.Mathlib.Omega.{arith}
use borrow.Author.Tests.{lt-ltb}
use lib.Pow.{pow_mono}
use lib.IntN.{ℤ, ◌+ℤ◌, nat_abs, sub_ℕ}
use Rattle.signed_number.proofs.Raised.{sub_plus, sub_minus, sub_size, sub_add, raise_plus, raise_minus}
use Rattle.signed_block.specs.Signed.{top, sign_bits, sign_read}
use Rattle.signed_block.proofs.Counters.{read_minus, bits_neg}
use Rattle.signed_nodes.specs.Nodes.{bias, Raised}

-- the bits of a difference
pub bits_sub_plus : (n a b : ℕ) → b ≤ a → sign_bits n (sub_ℕ a b) ≡ a - b
unfolding sign_bits
bits_sub_plus n a b h = ap (sign_bits n) (sub_plus a b h)

pub bits_sub_minus : (n a b : ℕ) → a < b → sign_bits n (sub_ℕ a b) ≡ top n + b - a
bits_sub_minus n a b h = ap (sign_bits n) (sub_minus a b h) ∙ bits_neg n (b - a) (omega arith) ∙ omega arith

-- twice the bias is that of the next level
pub bias_twice : (n : ℕ) → bias (suc n) ≡ bias n + bias n
unfolding bias
bias_twice n = let e : 32 + suc n ≡ suc (32 + n) = omega arith in omega (arith, ap (λ (k : ℕ). 2 ^ k) e)

pub bias_large : (n : ℕ) → 2 ^ 32 ≤ bias n
unfolding bias
bias_large n = pow_mono {i = 32} {j = 32 + n} (omega arith)

pub bias_small : (n k : ℕ) → n ≤ k → bias n ≤ bias k
unfolding bias
bias_small n k h = pow_mono {i = 32 + n} {j = 32 + k} (omega arith)

pub raised_sum : (n a b : ℕ) (u v : ℤ) → Raised n a u → Raised n b v → Raised (suc n) (a + b) (u +ℤ v)
raised_sum n a b u v e f = ap (sub_ℕ (a + b)) (bias_twice n) ∙ sub_add a b (bias n) (bias n) ∙ ap₂ (λ (x y : ℤ). x +ℤ y) e f

pub raised_next : (n a b : ℕ) (u v : ℤ) → Raised n a u → Raised n b v → Raised (n + 1) (a + b) (u +ℤ v)
raised_next n a b u v e f = rw (add-one n) (raised_sum n a b u v e f)

-- a raised number stays close to the bias
pub raised_lt : (n a : ℕ) (v : ℤ) → Raised n a v → a ≤ bias n + nat_abs v
raised_lt n a v e = omega (arith, sub_size a (bias n), ap nat_abs e)

-- a counter's value, raised
pub raised_plus : (n w : ℕ) → w < top n → Raised n (bias n + w) (sign_read n w)
unfolding sign_read
raised_plus n w h = rw (lt-ltb w (top n) h) (raise_plus (bias n) w)

pub raised_minus : (n w : ℕ) → top n ≤ w → w ≤ bias n + top n → Raised n (bias n + top n - w) (sign_read n w)
raised_minus n w h k =
    let e : bias n + top n - w ≡ bias n - (w - top n) = omega arith in
    rw (e, read_minus n w h) (raise_minus (bias n) (w - top n) (omega arith))
