-- Where a block is formed, its bit and all bits of blocks inside it are set and the other merge bits stay, for any level.
use mathlib.Core.Path.{◌≡◌, sym, ap, ◌∙◌}
use Prim.Native.Nat.{ℕ, suc, ◌+◌, ◌-◌, ◌*◌, ◌^◌, ◌≤◌, ◌<◌}
use native.Mathlib.Nat.{suc-mul, add-mul, mul_assoc, mul-one, zero-mul, mul-le-mul_right, mod-eq_of_lt, pow-suc}
use native.Mathlib.Decide.{dec_lt}
use native.Mathlib.Omega.{arith}
use borrow.Author.Tests.{lt-ltb, le-ltb}
use lib.Bits.{bit_or, bit_and, and_mask, or_add_and, or_comm, or_zero_r, or_block}
use lib.Pow.{pow_pos, pow_mono, pow-add, shl_lt, ones_lt}
use Rattle.group_layout.specs.Layout.{ones, marks}
use Rattle.group_layout.proofs.Laws.{marks_lt, marks_in}
use Rattle.group_block.specs.Kind.{Kind}
use Rattle.group_block.specs.Block.{BlockOf, counter, split, shape}
use Rattle.group_block_laws.specs.Climb.{form_at, bits_at}

-- bits that are all set stay so
or_ones : (k a : ℕ) → a < 2 ^ k → bit_or (2 ^ k - 1) a ≡ 2 ^ k - 1
or_ones k a h =
    let e : bit_and a (2 ^ k - 1) ≡ a = and_mask a k ∙ mod-eq_of_lt {n = a} {m = 2 ^ k} h in
    or_comm (2 ^ k - 1) a ∙ omega (arith, or_add_and a (2 ^ k - 1), e)

or_all : (m a : ℕ) → a < 2 ^ (2 ^ m - 1) → bit_or (ones m) a ≡ ones m
unfolding ones
or_all m a h = or_ones (2 ^ m - 1) a h

-- bits set in the low or in the high part of a number
or_low : (k a r s : ℕ) → r < 2 ^ k → s < 2 ^ k → bit_or (a * 2 ^ k + r) s ≡ a * 2 ^ k + bit_or r s
or_low k a r s h g =
    let e : s ≡ 0 * 2 ^ k + s = omega arith in
    ap (bit_or (a * 2 ^ k + r)) e ∙ or_block k a 0 r s h g ∙ ap (λ (z : ℕ). z * 2 ^ k + bit_or r s) (or_zero_r a)

or_high : (k a b r : ℕ) → r < 2 ^ k → bit_or (a * 2 ^ k + r) (b * 2 ^ k) ≡ bit_or a b * 2 ^ k + r
or_high k a b r h =
    let e : b * 2 ^ k ≡ b * 2 ^ k + 0 = omega arith in
    ap (bit_or (a * 2 ^ k + r)) e ∙ or_block k a b r 0 h (pow_pos k) ∙ ap (λ (z : ℕ). bit_or a b * 2 ^ k + z) (or_zero_r r)

power : (m n : ℕ) → n ≤ m → 2 ^ (m - n) * 2 ^ n ≡ 2 ^ m
power m n h = let e : m - n + n ≡ m = omega arith in sym (pow-add 2 (m - n) n) ∙ ap (λ (z : ℕ). 2 ^ z) e

-- the bits of a block are among those of the block of level m that it is in
bits_lt : (m n i : ℕ) → n ≤ m → i < 2 ^ (m - n) → bits_at n i < 2 ^ (2 ^ m - 1)
unfolding bits_at ones
bits_lt m n i h k =
    let e : 2 ^ (m - n) * 2 ^ n ≡ 2 ^ m = power m n h in
    let l : suc i * 2 ^ n ≤ 2 ^ (m - n) * 2 ^ n = mul-le-mul_right {m = suc i} {n = 2 ^ (m - n)} (2 ^ n) k in
    let in_block : 2 ^ n - 1 + i * 2 ^ n ≤ 2 ^ m - 1 = omega (arith, suc-mul i (2 ^ n), pow_pos n) in
    let x : (2 ^ (2 ^ n - 1) - 1) * 2 ^ (i * 2 ^ n) < 2 ^ (2 ^ n - 1 + i * 2 ^ n) = shl_lt (2 ^ n - 1) (i * 2 ^ n) (ones_lt (2 ^ n - 1)) in
    let y : 2 ^ (2 ^ n - 1 + i * 2 ^ n) ≤ 2 ^ (2 ^ m - 1) = pow_mono {i = 2 ^ n - 1 + i * 2 ^ n} {j = 2 ^ m - 1} in_block in
    omega arith

bits_in : (m n i : ℕ) → n ≤ m → i < 2 ^ (m - n) → bits_at n i < 2 ^ (2 ^ m)
bits_in m n i h k = omega (arith, bits_lt m n i h k, pow_mono {i = 2 ^ m - 1} {j = 2 ^ m} (omega arith))

bits_whole : (n : ℕ) → bits_at n 0 ≡ ones n
unfolding bits_at
bits_whole n = rw (zero-mul (2 ^ n)) (mul-one (ones n))

-- those of a block in the right half, by its index there
bits_right : (m n i j : ℕ) → n ≤ m → j ≡ 2 ^ (m - n) + i → bits_at n j ≡ bits_at n i * 2 ^ (2 ^ m)
unfolding bits_at
bits_right m n i j h e =
    let p : j * 2 ^ n ≡ i * 2 ^ n + 2 ^ m = ap (λ (z : ℕ). z * 2 ^ n) e ∙ omega (arith, add-mul (2 ^ (m - n)) i (2 ^ n), power m n h) in
    rw (p, pow-add 2 (i * 2 ^ n) (2 ^ m)) (sym (mul_assoc (ones n) (2 ^ (i * 2 ^ n)) (2 ^ (2 ^ m))))

pub form_bits : {K : Kind} {m : ℕ} (b : BlockOf K m) (n i : ℕ) (v : K.Value) → n ≤ m → i < 2 ^ (m - n)
    → marks (shape (form_at b n i v)) ≡ bit_or (marks (shape b)) (bits_at n i)
unfolding form_at shape marks
form_bits {K} {m} (counter w) n i v h k = sym (or_all m (bits_at n i) (bits_lt m n i h k))
form_bits (split {n = m} l r) n i v h k = elim (dec_lt m n) [
  | yes p ↦
      let en : n ≡ suc m = omega arith in
      let ez : suc m - n ≡ 0 = omega arith in
      let ei : i ≡ 0 = omega (arith, rw ez at k) in
      rw (lt-ltb m n p, en, ei, bits_whole (suc m))
      (sym (or_comm (marks (shape (split l r))) (ones (suc m)) ∙ or_all (suc m) (marks (shape (split l r))) (marks_lt (shape (split l r)))))
  | no p ↦ elim (dec_lt i (2 ^ (m - n))) [
    | yes q ↦
        rw (le-ltb m n (omega arith), lt-ltb i (2 ^ (m - n)) q, form_bits l n i v (omega arith) q)
        (sym (or_low (2 ^ m) (marks (shape r)) (marks (shape l)) (bits_at n i) (marks_in (shape l)) (bits_in m n i (omega arith) q)))
    | no q ↦
        let e : suc m - n ≡ suc (m - n) = omega arith in
        let j = i - 2 ^ (m - n) in
        let qj : j < 2 ^ (m - n) = omega (arith, pow-suc 2 (m - n), rw e at k) in
        let ij : i ≡ 2 ^ (m - n) + j = omega arith in
        rw (le-ltb m n (omega arith), le-ltb i (2 ^ (m - n)) (omega arith), form_bits r n j v (omega arith) qj, bits_right m n j i (omega arith) ij)
        (sym (or_high (2 ^ m) (marks (shape r)) (bits_at n j) (marks (shape l)) (marks_in (shape l))))
  ]
]
