-- The closed formulas of a merge byte, as instances at level 3 of the laws of Levels. Only the two masks of the valid bytes are a
-- table, shown by one computation over all bytes.
use mathlib.Core.Path.{◌≡◌, refl, sym, ap, ap₂, ◌∙◌}
use mathlib.Core.Bool.{Bool, true, false, cond, not}
use Prim.Native.Nat.{ℕ, suc, ◌+◌, ◌-◌, ◌*◌, ◌/◌, ◌%◌, ◌^◌, ◌<◌}
use native.Mathlib.Nat.{zero-add, zero-max, div-one, div-add-mod'}
use native.Mathlib.Omega.{arith}
use lib.Bits.{bit_and, bit_or, and_mask, and_high, or_step, or_disjoint}
use lib.Dec.{eqb}
use lib.Pow.{pow_pos, pow-add}
use Rattle.laws.proofs.Tests.{every, every_at}
use Rattle.group_layout.specs.Layout.{layout, valid, ones, widest_in, level_of}
use Rattle.group_layout.proofs.Laws.{marks_layout}
use Rattle.group_levels.specs.Levels.{own_bit, merged_around, some_own, merged_levels}
use Rattle.group_levels.proofs.Levels.{level_valid, widest_valid, own_clear}

-- Which bytes are valid.
same : Bool → Bool → Bool
same a b = cond a b (not b)

same_is : (a b : Bool) → same a b ≡ true → a ≡ b
unfolding same
same_is true true e = refl
same_is true false e = sym e
same_is false true e = e
same_is false false e = refl

-- bits 0 to 4 of a byte are among those of valid ones
abbrev pub low_valid : ℕ → ℕ
low_valid m = bit_and (2159214771 / 2 ^ bit_and m 31) 1

-- bits 3 to 7 are
abbrev pub high_valid : ℕ → Bool
high_valid m = eqb (bit_and (50437 / 2 ^ (m / 8)) 1) 1

all_valid_lem : every (λ m. same (cond (eqb (low_valid m) 0) false (high_valid m)) (valid 3 m)) 256 ≡ true
unfolding every same valid ones
all_valid_lem = refl

pub bits_valid : (m : ℕ) → m < 256 → cond (eqb (low_valid m) 0) false (high_valid m) ≡ valid 3 m
bits_valid m h =
    same_is (cond (eqb (low_valid m) 0) false (high_valid m)) (valid 3 m)
    (every_at (λ m. same (cond (eqb (low_valid m) 0) false (high_valid m)) (valid 3 m)) 256 m all_valid_lem h)

-- The level of a slot: the own bit of the block of a level around it, by its place.
own_at : (j m i p : ℕ) → i * 2 ^ suc j + (2 ^ j - 1) ≡ p → bit_and (m / 2 ^ p) 1 ≡ own_bit j m i
unfolding own_bit
own_at j m i p e = and_mask (m / 2 ^ p) 1 ∙ ap (λ (x : ℕ). m / 2 ^ x % 2) (sym e)

abbrev pub pair_half : ℕ → ℕ → ℕ
pair_half m k = bit_and (m / 2 ^ (k / 2 * 2)) 1 + bit_and (m / 2 ^ (k / 4 * 4 + 1)) 1

pub pair_half_lem : (m k : ℕ) → pair_half m k ≡ merged_around 2 m k
unfolding merged_around
pair_half_lem m k = ap₂ (λ (x y : ℕ). x + y) (own_at 0 m (k / 2) (k / 2 * 2) (omega arith) ∙ sym (zero-add _)) (own_at 1 m (k / 4) (k / 4 * 4 + 1) (omega arith))

pub pair_half_group : (m k : ℕ) → k < 8 → pair_half m k + bit_and (m / 8) 1 ≡ merged_around 3 m k
unfolding merged_around
pair_half_group m k h = ap₂ (λ (x y : ℕ). x + y) (pair_half_lem m k) (own_at 2 m (k / 8) 3 (omega arith))

pub bits_level : (m k : ℕ) → valid 3 m ≡ true → k < 8 → pair_half m k + bit_and (m / 8) 1 ≡ level_of (layout 3 m) k
bits_level m k v h = pair_half_group m k h ∙ sym (level_valid 3 m k v h)

-- The widest level: one block more of a level.
some_more : (j m c x : ℕ) → x % 2 ≡ some_own j m c → bit_or x (m / 2 ^ (c * 2 ^ suc j + (2 ^ j - 1))) % 2 ≡ some_own j m (suc c)
unfolding some_own own_bit
some_more j m c x e = omega (arith, or_step x (m / 2 ^ (c * 2 ^ suc j + (2 ^ j - 1))))

some_first : (j m : ℕ) → m / 2 ^ (2 ^ j - 1) % 2 ≡ some_own j m 1
unfolding some_own own_bit
some_first j m = let e : 0 * 2 ^ suc j + (2 ^ j - 1) ≡ 2 ^ j - 1 = omega arith in rw e (sym (zero-max (m / 2 ^ (2 ^ j - 1) % 2)))

abbrev pub any_pair_half : ℕ → ℕ
any_pair_half m = bit_and (bit_or (bit_or (bit_or m (m / 4)) (m / 16)) (m / 64)) 1 + bit_and (bit_or (m / 2) (m / 32)) 1

pub any_pair_half_lem : (m : ℕ) → any_pair_half m ≡ merged_levels 3 m 2
unfolding merged_levels
any_pair_half_lem m = ap₂ (λ (x y : ℕ). x + y) (pairs ∙ sym (zero-add _)) (and_mask (bit_or (m / 2) (m / 32)) 1 ∙ some_more 1 m 1 (m / 2) (some_first 1 m))
  where
    pairs : bit_and (bit_or (bit_or (bit_or m (m / 4)) (m / 16)) (m / 64)) 1 ≡ some_own 0 m 4
    pairs =
        and_mask (bit_or (bit_or (bit_or m (m / 4)) (m / 16)) (m / 64)) 1
        ∙ some_more 0 m 3 (bit_or (bit_or m (m / 4)) (m / 16)) (some_more 0 m 2 (bit_or m (m / 4)) (some_more 0 m 1 m (ap (λ (x : ℕ). x % 2) (sym (div-one m)) ∙ some_first 0 m)))

pub any_level : (m : ℕ) → any_pair_half m + bit_and (m / 8) 1 ≡ merged_levels 3 m 3
unfolding merged_levels
any_level m = ap₂ (λ (x y : ℕ). x + y) (any_pair_half_lem m) (and_mask (m / 8) 1 ∙ some_first 2 m)

pub bits_widest : (m : ℕ) → valid 3 m ≡ true → any_pair_half m + bit_and (m / 8) 1 ≡ widest_in (layout 3 m)
bits_widest m v = any_level m ∙ sym (widest_valid 3 m v)

-- The own bit of a block whose left half is a counter is clear, so that setting it adds it. For a block of any level.
and_power : (m x : ℕ) → m / 2 ^ x % 2 ≡ 0 → bit_and m (2 ^ x) ≡ 0
and_power m x e =
    let f : 2 ^ (1 + x) - 2 ^ x ≡ 2 ^ x = omega (arith, pow-add 2 1 x) in
    rw f at (and_high m 1 x) ∙ rw e (omega arith)

pub bits_formed : (n m p j : ℕ) → valid n m ≡ true → j < n → p < 2 ^ n → p % 2 ^ suc j ≡ 0 → level_of (layout n m) p ≡ j
    → bit_or m (2 ^ (p + 2 ^ j - 1)) ≡ m + 2 ^ (2 ^ j - 1) * 2 ^ p
unfolding own_bit
bits_formed n m p j v g h z e =
    let i : p / 2 ^ suc j * 2 ^ suc j ≡ p = omega (arith, div-add-mod' p (2 ^ suc j)) in
    let clear : m / 2 ^ (p / 2 ^ suc j * 2 ^ suc j + (2 ^ j - 1)) % 2 ≡ 0 =
    rw (marks_layout n m v) at (own_clear (layout n m) j (p / 2 ^ suc j) g (rw i h) (rw i e)) in
    let place : p / 2 ^ suc j * 2 ^ suc j + (2 ^ j - 1) ≡ p + 2 ^ j - 1 = omega (arith, i, pow_pos j) in
    let sum : p + 2 ^ j - 1 ≡ 2 ^ j - 1 + p = omega (arith, pow_pos j) in
    or_disjoint m (2 ^ (p + 2 ^ j - 1)) (and_power m (p + 2 ^ j - 1) (rw place at clear))
    ∙ ap (λ (x : ℕ). m + x) (ap (λ (x : ℕ). 2 ^ x) sum ∙ pow-add 2 (2 ^ j - 1) p)
