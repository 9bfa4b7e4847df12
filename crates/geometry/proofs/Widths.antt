-- Laws of widths, of where rows lie and of the order of refusals.
use mathlib.Core.Path.{◌≡◌, refl, sym, ap, ◌∙◌}
use mathlib.Core.Bool.{Bool, true, false, true≢false, or-true, and-eq-true_iff}
use mathlib.Core.Logic.{⊎_elim}
use mathlib.Core.List.{List, [], ◌∷◌}
use Prim.Native.Nat.{ℕ, zero, suc, ◌+◌, ◌-◌, ◌*◌, ◌/◌, ◌%◌, ◌^◌, ◌≤◌, ◌<◌}
use native.Mathlib.Nat.{mul_assoc, mul_comm, mul-one, pow-suc, mul-mod_left, mod_self, mul-le-mul, mul-le-mul_right, suc-mul}
use native.Mathlib.Decide.{dec_lt}
use native.Mathlib.Omega.{arith}
use borrow.Author.Tests.{eqb-true, eq-eqb, leb-true}
use lib.Arith.{bin_ind}
use lib.Bits.{bit_and, and_step, and_self, and_mask}
use lib.Count.{ones, ones_step}
use lib.Dec.{eqb, leb}
use lib.Pow.{pow-add, pow_mono, pow-lt}
use Rattle.std.proofs.lemmas.Nat.{ones_le_self, zero_from_ones}
use Rattle.laws.proofs.Tests.{or_cases}
use Rattle.laws.proofs.Tests.{both_ways}
use Rattle.geometry.specs.Geometry.{one_of_powers, valid_depth, largest_log, largest_width, valid_width, stride, size, RowIn, RowsIn}
use Rattle.answer.specs.Numbers.{invalid_width}
use Rattle.answer.specs.Order.{first_of, unless}
use Rattle.geometry.specs.Checks.{bad_depth, bad_width, bad_shape}

shift : (p i : ℕ) → p * 2 * 2 ^ i ≡ p * 2 ^ suc i
shift p i = mul_assoc p 2 (2 ^ i) ∙ ap (λ (x : ℕ). p * x) (mul_comm 2 (2 ^ i) ∙ sym (pow-suc 2 i))

-- one of the powers from p on is p times a power
powers_are : (n p w : ℕ) → one_of_powers n p w ≡ true → (i : ℕ) × (i < n) × (w ≡ p * 2 ^ i)
unfolding one_of_powers
powers_are zero p w e = absurd (true≢false (sym e))
powers_are (suc n) p w e =
    ⊎_elim (λ h. (0, omega arith, eqb-true w p h ∙ sym (mul-one p)))
    (λ h.
    let r = powers_are n (p * 2) w h in
    (suc r.0, omega (arith, r.1), r.2 ∙ shift p r.0))
    (or_cases (eqb w p) (one_of_powers n (p * 2) w) e)

are_powers : (n p i : ℕ) → i < n → one_of_powers n p (p * 2 ^ i) ≡ true
unfolding one_of_powers
are_powers zero p i h = absurd (omega arith)
are_powers (suc n) p zero h = rw (eq-eqb (p * 2 ^ 0) p (mul-one p))
are_powers (suc n) p (suc i) h = rw (← shift p i, are_powers n (p * 2) i (omega arith)) (or-true (eqb (p * 2 * 2 ^ i) p))

-- a valid width is a power of two from 32 to the largest
pub width_is : (w : ℕ) → valid_width w ≡ true → (k : ℕ) × (5 ≤ k) × (k ≤ largest_log) × (w ≡ 2 ^ k)
unfolding valid_width
width_is w e =
    let r = powers_are (largest_log - 4) 32 w e in
    (5 + r.0, omega arith, omega (arith, r.1), r.2 ∙ sym (pow-add 2 5 r.0))

pub is_width : (k : ℕ) → 5 ≤ k → k ≤ largest_log → valid_width (2 ^ k) ≡ true
unfolding valid_width
is_width k h l =
    let e : 2 ^ k ≡ 32 * 2 ^ (k - 5) = ap (λ (n : ℕ). 2 ^ n) (omega arith) ∙ pow-add 2 5 (k - 5) in
    rw e (are_powers (largest_log - 4) 32 (k - 5) (omega arith))

-- what a valid width has: the one place for it, which the crates above cite
pub record Wide (w : ℕ) : Type 0 where
  pub low : 32 ≤ w
  pub high : w ≤ largest_width
  pub whole : w % 32 ≡ 0
  pub eights : w % 8 ≡ 0
  pub shares : 2 ^ 32 % w ≡ 0

pub wide : (w : ℕ) → valid_width w ≡ true → Wide w
wide w e =
    let r = width_is w e in
    let k = r.0 in
    let five : k ≡ k - 5 + 5 = omega (arith, r.1) in
    let rest : 32 ≡ 32 - k + k = omega (arith, r.2) in
    let by-32 : 2 ^ k ≡ 2 ^ (k - 5) * 32 = ap (λ (n : ℕ). 2 ^ n) five ∙ pow-add 2 (k - 5) 5 in
    let shared : 2 ^ 32 ≡ 2 ^ (32 - k) * 2 ^ k = ap (λ (n : ℕ). 2 ^ n) rest ∙ pow-add 2 (32 - k) k in
    rw r.3
    (record {
      low = pow_mono {i = 5} {j = k} r.1;
      high = pow_mono {i = k} {j = largest_log} r.2;
      whole = omega (arith, by-32);
      eights = omega (arith, by-32);
      shares = rw shared (mul-mod_left (2 ^ (32 - k)) (2 ^ k));
    })

-- a number with one bit set is a power of two, and a power of two has one
one_of_ones : (d w : ℕ) → w ≤ d → ones w ≡ 1 → (k : ℕ) × (w ≡ 2 ^ k)
one_of_ones zero w h e = absurd (omega (arith, ones_le_self w))
one_of_ones (suc d) w h e =
    elim (dec_lt 0 (w % 2)) [
      | yes odd ↦ (0, omega (arith, zero_from_ones (w / 2) (omega (arith, ones_step w))))
      | no even ↦
          let r = one_of_ones d (w / 2) (omega (arith, ones_le_self w)) (omega (arith, ones_step w)) in
          (suc r.0, omega (arith, r.1, pow-suc 2 r.0))
    ]

one_set : (k : ℕ) → ones (2 ^ k) ≡ 1
one_set zero = omega (arith, ones_step 1, ones_le_self 0)
one_set (suc k) =
    let half : 2 ^ suc k / 2 ≡ 2 ^ k = omega (arith, pow-suc 2 k) in
    let even : 2 ^ suc k % 2 ≡ 0 = omega (arith, pow-suc 2 k) in
    omega (arith, ones_step (2 ^ suc k), ap ones half, one_set k)

-- powers in order have exponents in order
log_le : (j k : ℕ) → 2 ^ j ≤ 2 ^ k → j ≤ k
log_le j k h = elim (dec_lt k j) [ yes l ↦ absurd (omega (arith, pow-lt {i = k} {j = j} l)) | no n ↦ omega arith ]

-- the code's test of a width
pub width_out : (w : ℕ) → (32 ≤ w → w ≤ largest_width → ⊥) → false ≡ valid_width w
width_out w h = both_ways false (valid_width w) (λ e. absurd (true≢false (sym e))) (λ v. absurd (h (wide w v).low (wide w v).high))

-- More than the largest width is line 2, whatever would be tested after it, the length of the memory among it: in the calls of every kind
-- of meter and in a feed's head.
pub too_wide : (d w : ℕ) (later : List ℕ) → valid_depth d ≡ true → largest_width < w → first_of (bad_depth d ∷ bad_width w ∷ later) ≡ invalid_width
unfolding first_of
too_wide d w later v h = rw (v, ← width_out w (λ l m. omega arith))

pub ones_test : (w : ℕ) → 32 ≤ w → w ≤ largest_width → eqb (ones w) 1 ≡ valid_width w
ones_test w l h =
    both_ways (eqb (ones w) 1) (valid_width w)
    (λ e.
    let r = one_of_ones w w (omega arith) (eqb-true (ones w) 1 e) in
    rw r.1 (is_width r.0 (log_le 5 r.0 (rw r.1 at l)) (log_le r.0 largest_log (rw r.1 at h))))
    (λ v.
    let r = width_is w v in
    eq-eqb (ones w) 1 (rw r.3 (one_set r.0)))

-- a number that shares no bit with its predecessor is a power of two
one_bit : (w : ℕ) → 0 < w → bit_and w (w - 1) ≡ 0 → (k : ℕ) × (w ≡ 2 ^ k)
one_bit = bin_ind (λ (w : ℕ). 0 < w → bit_and w (w - 1) ≡ 0 → (k : ℕ) × (w ≡ 2 ^ k)) (λ h e. absurd (omega arith)) step
  where
    step : (n : ℕ) → (0 < n / 2 → bit_and (n / 2) (n / 2 - 1) ≡ 0 → (k : ℕ) × (n / 2 ≡ 2 ^ k)) → 0 < n → bit_and n (n - 1) ≡ 0 → (k : ℕ) × (n ≡ 2 ^ k)
    step n ih h e =
        elim (dec_lt 0 (n % 2)) [
          | yes odd ↦ (
            0,
            let same : (n - 1) / 2 ≡ n / 2 = omega arith in
                omega (arith, and_step n (n - 1), ap (bit_and (n / 2)) same, and_self (n / 2)),
          )
          | no even ↦
              let less : (n - 1) / 2 ≡ n / 2 - 1 = omega arith in
              let r = ih (omega arith) (omega (arith, and_step n (n - 1), ap (bit_and (n / 2)) less)) in
              (suc r.0, omega (arith, r.1))
        ]

-- the same by a test of bits
pub width_test : (w : ℕ) → 32 ≤ w → w ≤ largest_width → eqb (bit_and w (w - 1)) 0 ≡ valid_width w
width_test w l h =
    both_ways (eqb (bit_and w (w - 1)) 0) (valid_width w)
    (λ e.
    let r = one_bit w (omega arith) (eqb-true (bit_and w (w - 1)) 0 e) in
    rw r.1 (is_width r.0 (log_le 5 r.0 (rw r.1 at l)) (log_le r.0 largest_log (rw r.1 at h))))
    (λ v.
    let r = width_is w v in
    eq-eqb (bit_and w (w - 1)) 0 (rw (r.3, and_mask (2 ^ r.0) r.0) (mod_self (2 ^ r.0))))

pub stride_is : (w : ℕ) → stride w ≡ w + w / 8
unfolding stride
stride_is w = omega arith

pub depth_in : (d : ℕ) → valid_depth d ≡ true → (1 ≤ d) × (d ≤ 8)
unfolding valid_depth
depth_in d v =
    let p = (and-eq-true_iff (leb 1 d) (leb d 8)).0 v in
    (leb-true 1 d p.0, leb-true d 8 p.1)

-- a shape with nothing wrong
pub shape_good : (d w bytes : ℕ) → bad_shape d w bytes ≡ 0 → (1 ≤ d) × RowsIn d w bytes
unfolding first_of
shape_good d w bytes = go (valid_depth d) (valid_width w) (eqb bytes (size d w)) refl refl refl
  where
    go : (a b c : Bool) → valid_depth d ≡ a → valid_width w ≡ b → eqb bytes (size d w) ≡ c
        → first_of (unless a 1 ∷ unless b 2 ∷ unless c 3 ∷ []) ≡ 0 → (1 ≤ d) × RowsIn d w bytes
    go true true true p q s e = ((depth_in d p).0, (q, (depth_in d p).1, eqb-true bytes (size d w) s))
    go true true false p q s e = absurd (omega arith)
    go true false c p q s e = absurd (omega arith)
    go false b c p q s e = absurd (omega arith)

-- the shape of a memory
pub size_in : (d w : ℕ) → valid_depth d ≡ true → valid_width w ≡ true → d * stride w ≤ 8 * (largest_width + largest_width / 8)
size_in d w v e =
    let f = wide w e in
    mul-le-mul {n₁ = d} {m₁ = stride w} {n₂ = 8} {m₂ = largest_width + largest_width / 8} (depth_in d v).1 (omega (arith, stride_is w))

-- row r of d rows lies in the memory
pub row_in : (r d stride : ℕ) {n : ℕ} → r < d → d * stride ≤ n → r * stride + stride ≤ n
row_in r d stride h k = omega (arith, mul-le-mul_right {m = suc r} {n = d} stride h, suc-mul r stride)

pub one_row : (d w r : ℕ) {bytes : ℕ} → RowsIn d w bytes → r < d → RowIn w r bytes
unfolding size
one_row d w r p h = (p.0, omega (arith, p.1), row_in r d (stride w) h (omega (arith, p.2)))

-- where a group lies in a row
pub slot_in : (w slot : ℕ) → valid_width w ≡ true → slot < w → slot / 8 < w / 8
slot_in w slot v h =
    let f = wide w v in
    omega arith

pub group_in : (w g : ℕ) → valid_width w ≡ true → g < w / 8 → (8 * g + 8 ≤ w) × (w + g < stride w)
group_in w g v h =
    let f = wide w v in
    omega (arith, stride_is w)
