-- Where counters start, by the code's mask: the merge bits that are clear, spread over the count bytes, taken as one number. By
-- induction on the level, and the mask of the code by induction on the bits that it spreads.
use mathlib.Core.Path.{◌≡◌, refl, sym, ap, ◌∙◌}
use Prim.Native.Nat.{ℕ, zero, suc, ◌+◌, ◌-◌, ◌*◌, ◌/◌, ◌%◌, ◌^◌, ◌≤◌, ◌<◌}
use native.Mathlib.Nat.{zero-add, add-zero, add_comm, mul-zero, mul_comm, mul-add, mul-suc, suc-mul, add-mul, mul_assoc, one-mul, div-one, div-eq_of_lt}
use native.Mathlib.Omega.{arith}
use lib.Arith.{digits_lt}
use lib.Bits.{bit_and, bit_xor, and_zero_r, and_block, and_high, xor_add_and, xor_shr, xor_lt, block_half, block_odd}
use lib.Pow.{pow_pos, pow_mono, pow-add, shr-shr, high, ones_lt}
use Rattle.group_layout.specs.Layout.{Layout, merged, halves, ones, marks}
use Rattle.group_layout.proofs.Laws.{marks_in}
use Rattle.group_block.specs.Block.{cap}
use Rattle.group_block.proofs.Laws.{cap_square}
use Rattle.group_slots.proofs.Bits.{ones_bit}

-- the lowest bit of each counter but the first
unfoldable pub bounds : {n : ℕ} → Layout n → ℕ
bounds merged = 0
bounds (halves {n} l r) = (1 + bounds r) * cap n + bounds l

-- the lowest bits of bytes 1 to c, each where the merge bit before it, of the c lowest, is clear
unfoldable pub gaps : ℕ → ℕ → ℕ
gaps zero m = 0
gaps (suc c) m = (1 - m % 2 + gaps c (m / 2)) * 256

-- by parts: the a lowest merge bits and b more
pub gaps_add : (a b m : ℕ) → gaps (a + b) m ≡ gaps b (m / 2 ^ a) * 2 ^ (8 * a) + gaps a m
unfolding gaps
gaps_add zero b m = rw (zero-add b, div-one m) (omega arith)
gaps_add (suc a) b m =
    let e : suc a + b ≡ suc (a + b) = omega arith in
    let f : m / 2 / 2 ^ a ≡ m / 2 ^ suc a = shr-shr m 1 a ∙ ap (λ (x : ℕ). m / 2 ^ x) (omega arith) in
    let g : gaps b (m / 2 ^ suc a) * 2 ^ (8 * suc a) ≡ gaps b (m / 2 ^ suc a) * 2 ^ (8 * a) * 256 =
    ap (λ (x : ℕ). gaps b (m / 2 ^ suc a) * x) (ap (λ (x : ℕ). 2 ^ x) (omega arith) ∙ pow-add 2 (8 * a) 8) ∙ sym (mul_assoc (gaps b (m / 2 ^ suc a)) (2 ^ (8 * a)) 256) in
    rw (e, gaps_add a b (m / 2), f) (omega (arith, g))

-- higher bits do not matter
gaps_low : (c x y : ℕ) → gaps c (x * 2 ^ c + y) ≡ gaps c y
unfolding gaps
gaps_low zero x y = refl
gaps_low (suc c) x y = rw (block_odd x c y, block_half x c y, gaps_low c x (y / 2))

pub gaps_even : (c m : ℕ) → gaps c m % 2 ≡ 0
unfolding gaps
gaps_even zero m = refl
gaps_even (suc c) m = omega arith

pub gaps_lt : (c m : ℕ) → 1 + gaps c m < 2 * 2 ^ (8 * c)
unfolding gaps
gaps_lt zero m = omega arith
gaps_lt (suc c) m =
    let e : 2 ^ (8 * suc c) ≡ 2 ^ (8 * c) * 256 = ap (λ (x : ℕ). 2 ^ x) (omega arith) ∙ pow-add 2 (8 * c) 8 in
    omega (arith, e, gaps_lt c (m / 2), pow_pos (8 * c))

-- all bits set
gaps_ones : (c : ℕ) → gaps c (2 ^ c - 1) ≡ 0
unfolding gaps
gaps_ones zero = refl
gaps_ones (suc c) =
    let o : (2 ^ suc c - 1) % 2 ≡ 1 = omega (arith, pow_pos c) in
    let h : (2 ^ suc c - 1) / 2 ≡ 2 ^ c - 1 = omega (arith, pow_pos c) in
    rw (o, h, gaps_ones c)

-- Bits spread over places of so many bits: bit i of a number at bit s * i, for the c lowest bits.
spread : ℕ → ℕ → ℕ → ℕ
spread s zero x = 0
spread s (suc c) x = x / 2 ^ c % 2 * 2 ^ (s * c) + spread s c x

-- turned over and one place up, they are the gaps
gaps_spread : (w c m : ℕ) → c ≤ w → gaps c m ≡ spread 8 c (bit_xor (2 ^ w - 1) m) * 256
unfolding gaps spread
gaps_spread w zero m h = refl
gaps_spread w (suc c) m h =
    let e : suc c ≡ c + 1 = omega arith in
    let t = bit_xor (2 ^ w - 1) m in
    let turned : t / 2 ^ c % 2 ≡ 1 - m / 2 ^ c % 2 =
    ap (λ (x : ℕ). x % 2) (xor_shr (2 ^ w - 1) m c) ∙ omega (arith, xor_add_and ((2 ^ w - 1) / 2 ^ c) (m / 2 ^ c), ones_bit w c h) in
    ap (λ (x : ℕ). gaps x m) e
    ∙ gaps_add c 1 m
    ∙ rw (turned, gaps_spread w c m (omega arith))
    (omega (arith, mul_assoc (1 - m / 2 ^ c % 2) (2 ^ (8 * c)) 256, mul_assoc (1 - m / 2 ^ c % 2) 256 (2 ^ (8 * c)), mul_comm (2 ^ (8 * c)) 256))

-- c ones, each w places above the last
copies : ℕ → ℕ → ℕ
copies w zero = 0
copies w (suc c) = 2 ^ (w * c) + copies w c

place_up : (w c : ℕ) → 2 ^ (w * suc c) ≡ 2 ^ w * 2 ^ (w * c)
place_up w c = ap (λ (x : ℕ). 2 ^ x) (mul-suc w c ∙ add_comm (w * c) w) ∙ pow-add 2 w (w * c)

copies_lt : (w c x : ℕ) → x < 2 ^ w → x * copies w c < 2 ^ (w * c)
unfolding copies
copies_lt w zero x h = rw (mul-zero x) (pow_pos (w * 0))
copies_lt w (suc c) x h = rw (place_up w c, mul-add x (2 ^ (w * c)) (copies w c)) (digits_lt h (copies_lt w c x h))

comb_lt : (w c : ℕ) → c ≤ w → copies (suc w) c < 2 ^ (w * c)
unfolding copies
comb_lt w zero h = pow_pos (w * 0)
comb_lt w (suc c) h =
    let up : suc (suc w * c) ≤ w * suc c = omega (arith, suc-mul w c, mul-suc w c) in
    let low : w * c ≤ suc w * c = omega (arith, suc-mul w c) in
    omega (arith, comb_lt w c (omega arith), pow_mono {i = w * c} {j = suc w * c} low, pow_mono {i = suc (suc w * c)} {j = w * suc c} up)

-- copies of w bits side by side, each (w + 1)-th bit taken
spread_is : (w c x : ℕ) → x < 2 ^ w → c ≤ w → bit_and (x * copies w c) (copies (suc w) c) ≡ spread (suc w) c x
unfolding copies spread
spread_is w zero x h k = and_zero_r (x * 0)
spread_is w (suc c) x h k =
    let high : 2 ^ (suc w * c) ≡ 2 ^ c * 2 ^ (w * c) = ap (λ (y : ℕ). 2 ^ y) (suc-mul w c ∙ add_comm (w * c) c) ∙ pow-add 2 c (w * c) in
    let one : 2 ^ (1 + c) - 2 ^ c ≡ 2 ^ c = omega (arith, pow-add 2 1 c) in
    let bit_is : bit_and x (2 ^ c) ≡ x / 2 ^ c % 2 * 2 ^ c = rw one at (and_high x 1 c) in
    rw (high, mul-add x (2 ^ (w * c)) (copies w c), and_block (w * c) x (2 ^ c) (x * copies w c) (copies (suc w) c) (copies_lt w c x h) (comb_lt w c (omega arith)), bit_is, spread_is w c x h (omega arith), mul_assoc (x / 2 ^ c % 2) (2 ^ c) (2 ^ (w * c)))

-- The law of levels: where the block's merge bits are clear its counters start, but for the first, and the block ends.
pub gaps_bounds : {n : ℕ} (L : Layout n) → gaps (2 ^ n) (marks L) ≡ cap n + bounds L
unfolding marks ones bounds cap gaps
gaps_bounds {n} merged = whole ∙ rw (add-zero (2 ^ (8 * 2 ^ n)))
  where
    whole : gaps (2 ^ n) (2 ^ (2 ^ n - 1) - 1) ≡ 2 ^ (8 * 2 ^ n)
    whole =
        let e : 2 ^ n ≡ 2 ^ n - 1 + 1 = omega (arith, pow_pos n) in
        let f : 2 ^ (8 * 2 ^ n) ≡ 256 * 2 ^ (8 * (2 ^ n - 1)) = ap (λ (x : ℕ). 2 ^ x) (omega (arith, pow_pos n)) ∙ pow-add 2 8 (8 * (2 ^ n - 1)) in
        ap (λ (c : ℕ). gaps c (2 ^ (2 ^ n - 1) - 1)) e
        ∙ gaps_add (2 ^ n - 1) 1 (2 ^ (2 ^ n - 1) - 1)
        ∙ rw (div-eq_of_lt {n = 2 ^ (2 ^ n - 1) - 1} {m = 2 ^ (2 ^ n - 1)} (ones_lt (2 ^ n - 1)), gaps_ones (2 ^ n - 1)) (omega (arith, f))
gaps_bounds (halves {n} l r) =
    let m = marks r * 2 ^ (2 ^ n) + marks l in
    let e : 2 ^ suc n ≡ 2 ^ n + 2 ^ n = omega arith in
    let top : m / 2 ^ (2 ^ n) ≡ marks r = high (marks r) (2 ^ n) (marks_in l) in
    ap (λ (c : ℕ). gaps c m) e
    ∙ gaps_add (2 ^ n) (2 ^ n) m
    ∙ rw (top, gaps_low (2 ^ n) (marks r) (marks l), gaps_bounds l, gaps_bounds r)
    (omega (arith, cap_square n, add-mul (2 ^ (8 * 2 ^ n)) (bounds r) (2 ^ (8 * 2 ^ n)), add-mul 1 (bounds r) (2 ^ (8 * 2 ^ n)), one-mul (2 ^ (8 * 2 ^ n))))

-- The mask that the code computes; byte 8 is past its 64 bits. The multiplication lays seven copies of the seven turned bits side by
-- side, so that every eighth bit is the next bit of them.
abbrev pub starts : ℕ → ℕ
starts m = bit_and (bit_xor 127 m * 4432676798593) 282578800148737 * 256

pub spread_byte : (m : ℕ) → m < 128 → 2 ^ 64 + starts m ≡ gaps 8 m
unfolding gaps copies
spread_byte m h =
    let bits : bit_and (bit_xor 127 m * copies 7 7) (copies 8 7) ≡ spread 8 7 (bit_xor 127 m) = spread_is 7 7 (bit_xor 127 m) (xor_lt 7 127 m (omega arith) h) (omega arith) in
    let seven : gaps 7 m ≡ starts m = gaps_spread 7 7 m (omega arith) ∙ ap (λ (x : ℕ). x * 256) (sym bits) in
    let none : m / 2 ^ 7 ≡ 0 = div-eq_of_lt {n = m} {m = 2 ^ 7} h in
    sym (gaps_add 7 1 m ∙ rw none (omega (arith, seven)))
