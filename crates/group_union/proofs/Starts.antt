-- Where counters start, by merge bits: bit k is clear where slot k + 1 starts a counter or is past the block. By induction on the
-- level.
use mathlib.Core.Path.{◌≡◌, sym, ap, ◌∙◌}
use mathlib.Core.Bool.{true, false, true≢false}
use Prim.Native.Nat.{ℕ, suc, ◌+◌, ◌-◌, ◌*◌, ◌/◌, ◌%◌, ◌^◌, ◌≤◌, ◌<◌}
use native.Mathlib.Nat.{mul_assoc, div-eq_of_lt}
use native.Mathlib.Decide.{dec_lt}
use native.Mathlib.Omega.{arith}
use borrow.Author.Tests.{eqb-true, eq-eqb, lt-ltb, le-ltb}
use lib.Arith.{digits_mod}
use lib.Bits.{bit_and, bit_xor, and_le_r}
use lib.Dec.{eqb}
use lib.Pow.{pow_mono}
use Rattle.group_layout.specs.Layout.{Layout, merged, halves, bit, ones, marks, layout, valid}
use Rattle.group_layout.proofs.Laws.{marks_lt, marks_in, bit_halves, marks_layout}
use Rattle.group_block.specs.Block.{cap, block}
use Rattle.group_block.specs.Sum.{unite}
use Rattle.group_block_laws.specs.Least.{together}
use Rattle.group_slots.proofs.Bits.{ones_bit, low_bit, high_bit}
use Rattle.group_slots.proofs.Gaps.{bounds, gaps, gaps_add, gaps_even, gaps_lt, gaps_bounds, starts, spread_byte}
use Rattle.group_block.proofs.Laws.{cap_mono}
use Rattle.group_union.proofs.Carries.{carries, carries_lt, mask_mod, end_no_carry, no_carry_end, keeps_no_carry, no_carry_keeps}
use Rattle.group_union.specs.Passed.{keeps}
use Rattle.laws.proofs.Tests.{both_ways}

-- Merge bit k is set where slots k and k + 1 are in one counter.
pub bit_together : {n : ℕ} (L : Layout n) (k : ℕ) → suc k < 2 ^ n → bit (marks L) k ≡ together L k (suc k)
unfolding bit marks ones together
bit_together {n} merged k h = eq-eqb ((2 ^ (2 ^ n - 1) - 1) / 2 ^ k % 2) 1 (ones_bit (2 ^ n - 1) k (omega arith))
bit_together (halves {n} l r) k h = elim (dec_lt (suc k) (2 ^ n)) [
  | yes m ↦
      rw (lt-ltb k (2 ^ n) (omega arith), lt-ltb (suc k) (2 ^ n) m)
      (ap (λ (x : ℕ). eqb x 1) (low_bit (marks r) (marks l) (2 ^ n) k (omega arith)) ∙ bit_together l k m)
  | no m ↦ elim (dec_lt k (2 ^ n)) [
    | yes j ↦
        let e : k ≡ 2 ^ n - 1 = omega arith in
        rw (lt-ltb k (2 ^ n) j, le-ltb (suc k) (2 ^ n) (omega arith), e) (bit_halves l r)
    | no j ↦
        let e : k ≡ 2 ^ n + (k - 2 ^ n) = omega arith in
        let f : suc k - 2 ^ n ≡ suc (k - 2 ^ n) = omega arith in
        rw (le-ltb k (2 ^ n) (omega arith), le-ltb (suc k) (2 ^ n) (omega arith), f)
        (ap (λ (x : ℕ). eqb x 1) (ap (λ (x : ℕ). (marks r * 2 ^ (2 ^ n) + marks l) / 2 ^ x % 2) e ∙ high_bit (marks r) (marks l) (2 ^ n) (k - 2 ^ n) (marks_in l))
        ∙ bit_together r (k - 2 ^ n) (omega arith))
  ]
]

pub valid_together : (n m k : ℕ) → valid n m ≡ true → suc k < 2 ^ n → bit m k ≡ together (layout n m) k (suc k)
valid_together n m k v h = rw (marks_layout n m v) at (bit_together (layout n m) k h)

-- the last bit, past which the block ends, is clear
pub bit_end : {n : ℕ} (L : Layout n) → bit (marks L) (2 ^ n - 1) ≡ false
unfolding bit
bit_end {n} L = rw (div-eq_of_lt {n = marks L} {m = 2 ^ (2 ^ n - 1)} (marks_lt L))

-- at every level the starts of valid merge bits are the block's bounds and, above them, the block's end
starts_mod : (n m : ℕ) → n ≤ 3 → valid n m ≡ true → (2 ^ 64 + starts m) % (2 * cap n) ≡ cap n + bounds (layout n m)
unfolding cap
starts_mod n m h v =
    let is : marks (layout n m) ≡ m = marks_layout n m v in
    let size : 2 ^ n ≤ 8 = pow_mono {i = n} {j = 3} h in
    let small : m < 128 = omega (arith, is, marks_lt (layout n m), pow_mono {i = 2 ^ n - 1} {j = 7} (omega arith)) in
    let more = gaps (8 - 2 ^ n) (m / 2 ^ (2 ^ n)) in
    let e : 8 ≡ 2 ^ n + (8 - 2 ^ n) = omega arith in
    let even : more * 2 ^ (8 * 2 ^ n) ≡ more / 2 * (2 * 2 ^ (8 * 2 ^ n)) =
    ap (λ (x : ℕ). x * 2 ^ (8 * 2 ^ n)) (omega (arith, gaps_even (8 - 2 ^ n) (m / 2 ^ (2 ^ n)))) ∙ mul_assoc (more / 2) 2 (2 ^ (8 * 2 ^ n)) in
    let all : 2 ^ 64 + starts m ≡ more / 2 * (2 * 2 ^ (8 * 2 ^ n)) + gaps (2 ^ n) m =
    spread_byte m small ∙ ap (λ (c : ℕ). gaps c m) e ∙ gaps_add (2 ^ n) (8 - 2 ^ n) m ∙ ap (λ (x : ℕ). x + gaps (2 ^ n) m) even in
    ap (λ (x : ℕ). x % (2 * 2 ^ (8 * 2 ^ n))) all ∙ digits_mod (more / 2) (omega (arith, gaps_lt (2 ^ n) m)) ∙ rw is at (gaps_bounds (layout n m))

starts_lt : (m : ℕ) → starts m < 2 ^ 64
starts_lt m = omega (arith, and_le_r (bit_xor 127 m * 4432676798593) 282578800148737)

module _ (n a b m : ℕ) (level : n ≤ 3) (v : valid n m ≡ true) (h : a < cap n) (k : b < cap n) where
  starts_mask : a + b < 2 ^ 64 → bit_and (carries a b) (starts m) ≡ bit_and (carries a b) (cap n + bounds (layout n m))
  unfolding cap
  starts_mask s =
      let d = suc (8 * 2 ^ n) in
      let two : 2 * 2 ^ (8 * 2 ^ n) ≡ 2 ^ d = omega arith in
      let low : (2 ^ 64 + starts m) % 2 ^ 64 ≡ starts m = omega (arith, starts_lt m) in
      rw low at (mask_mod 64 (carries a b) (2 ^ 64 + starts m) (carries_lt 64 a b s))
      ∙ sym (rw (← two, starts_mod n m level v) at (mask_mod d (carries a b) (2 ^ 64 + starts m) (carries_lt d a b (omega arith))))

  -- the test that the code makes
  pub starts_keep : a + b < 2 ^ 64 → eqb (bit_and (carries a b) (starts m)) 0 ≡ keeps m (unite (block n a m) (block n b m))
  starts_keep s =
      both_ways _ _
      (λ e. let z = end_no_carry (layout n m) a b h k (sym (starts_mask s) ∙ eqb-true _ _ e) in no_carry_keeps n a b m v h k z.0 z.1)
      (λ e. let z = keeps_no_carry n a b m v h k e in eq-eqb _ _ (starts_mask s ∙ no_carry_end (layout n m) a b z.0 z.1))

  pub past_not_kept : 2 ^ 64 ≤ a + b → keeps m (unite (block n a m) (block n b m)) ≡ false
  unfolding cap
  past_not_kept s =
      both_ways _ false
      (λ e. absurd (omega (arith, cap_mono n 3 level, (keeps_no_carry n a b m v h k e).0)))
      (λ e. absurd (true≢false (sym e)))
