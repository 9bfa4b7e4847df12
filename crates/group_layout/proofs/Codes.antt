-- Laws of layout codes, for any level.
use mathlib.Core.Path.{◌≡◌, refl, sym}
use mathlib.Core.Bool.{Bool, true, false, cond}
use Prim.Native.Nat.{ℕ, zero, suc, ◌+◌, ◌-◌, ◌*◌, ◌/◌, ◌%◌, ◌^◌, ◌≤◌, ◌<◌}
use native.Mathlib.Nat.{mod-lt, zero-mul, zero-div, zero-mod, div-lt_iff_lt-mul, div-add-mod', mul-le-mul_right}
use native.Mathlib.Decide.{le_ind}
use native.Mathlib.Numerals.{sub-one}
use native.Mathlib.Omega.{arith}
use borrow.Author.Tests.{eq-eqb, ne_eqb, eqb-true, eqb-false}
use lib.Arith.{digits_lt, digits_div, digits_mod, lt_of_le-ne}
use lib.Dec.{eqb}
use Rattle.group_layout.specs.Layout.{Layout, merged, halves, bit, ones, marks, layout}
use Rattle.group_layout.specs.Code.{layouts, merged_code, code, uncode}

pub layouts_pos : (n : ℕ) → 0 < layouts n
unfolding layouts
layouts_pos zero = omega arith
layouts_pos (suc n) = omega arith

-- a merged block has the last code
pub merged_last : (n : ℕ) → merged_code n + 1 ≡ layouts n
unfolding layouts merged_code
merged_last zero = refl
merged_last (suc n) = refl

pub code_lt : {n : ℕ} (L : Layout n) → code L < layouts n
unfolding code layouts
code_lt {n} merged = omega (arith, merged_last n)
code_lt (halves {n} l r) = omega (arith, digits_lt (code_lt l) (code_lt r))

-- no merge bit set
pub code_zero : (n : ℕ) → code (layout n 0) ≡ 0
unfolding code merged_code layout bit
code_zero zero = refl
code_zero (suc n) = rw (zero-div (2 ^ (2 ^ n - 1)), zero-mod (2 ^ (2 ^ n)), zero-div (2 ^ (2 ^ n)), code_zero n, zero-mul (layouts n))

halves_not_merged : {n : ℕ} (l r : Layout n) → code l * layouts n + code r ≡ merged_code (suc n) → ⊥
unfolding merged_code
halves_not_merged l r e = omega (arith, digits_lt (code_lt l) (code_lt r))

-- a code stands for the layout that it was made of
pub uncode_code : {n : ℕ} (L : Layout n) → uncode n (code L) ≡ L
unfolding uncode code
uncode_code {n} merged = go n
  where
    go : (k : ℕ) → uncode k (merged_code k) ≡ merged
    go zero = refl
    go (suc k) = rw (eq-eqb (merged_code (suc k)) (merged_code (suc k)) refl)
uncode_code (halves {n} l r) =
    rw (
      ne_eqb (code l * layouts n + code r) (merged_code (suc n)) (halves_not_merged l r),
      digits_div (code l) (code_lt r),
      digits_mod (code l) (code_lt r),
      uncode_code l,
      uncode_code r,
    )

-- a code below the number of layouts is that of the layout it stands for
pub code_uncode : (n c : ℕ) → c < layouts n → code (uncode n c) ≡ c
unfolding uncode code merged_code layouts
code_uncode zero c h = omega arith
code_uncode (suc n) c h = go (eqb c (layouts n * layouts n)) refl
    (λ l. code_uncode n (c / layouts n) ((div-lt_iff_lt-mul {k = layouts n} {x = c} {y = layouts n} (layouts_pos n)).1 l))
    (code_uncode n (c % layouts n) (mod-lt c (layouts_pos n)))
  where
    go : (b : Bool) → eqb c (layouts n * layouts n) ≡ b
        → (c < layouts n * layouts n → code (uncode n (c / layouts n)) ≡ c / layouts n)
        → code (uncode n (c % layouts n)) ≡ c % layouts n
        → code (cond b merged (halves (uncode n (c / layouts n)) (uncode n (c % layouts n)))) ≡ c
    go true e l r = sym (eqb-true c (layouts n * layouts n) e)
    go false e l r =
        let below : c < layouts n * layouts n = lt_of_le-ne (omega arith) (eqb-false c (layouts n * layouts n) e) in
        rw (l below, r) (div-add-mod' c (layouts n))

-- a higher level has more layouts
layouts_up : (m n : ℕ) → m ≤ n → layouts m ≤ layouts n
unfolding layouts
layouts_up m n h =
    le_ind (λ (k : ℕ). layouts m ≤ layouts k) (omega arith)
    (λ k l e. omega (arith, mul-le-mul_right {m = 1} {n = layouts k} (layouts k) (layouts_pos k))) n h

pub layouts_below_three : (n : ℕ) → n ≤ 2 → layouts n ≤ 5
unfolding layouts
layouts_below_three n h = layouts_up n 2 h

pub code_small : (n : ℕ) → n ≤ 3 → (L : Layout n) → code L ≤ 25
unfolding layouts
code_small n h L = omega (arith, code_lt L, layouts_up n 3 h)

-- a code as the contract has it
pub with_bound : {x : ℕ} (n m : ℕ) → n ≤ 3 → x ≡ code (layout n m) → (x ≡ code (layout n m)) × (x ≤ 25)
with_bound n m h e = (e, rw e (code_small n h (layout n m)))

pub layouts_more : (n : ℕ) → 0 < n → layouts n ≡ layouts (n - 1) * layouts (n - 1) + 1
unfolding layouts
layouts_more zero h = absurd (omega arith)
layouts_more (suc n) h = rw (sub-one (suc n))

-- the codes of the halves
pub halves_lt : (n c : ℕ) → 0 < n → c < layouts n → (c ≡ layouts (n - 1) * layouts (n - 1) → ⊥)
    → (c / layouts (n - 1) < layouts (n - 1)) × (c % layouts (n - 1) < layouts (n - 1))
halves_lt n c h k e =
    let a = layouts (n - 1) in
    let below : c < a * a = lt_of_le-ne (omega (arith, layouts_more n h)) e in
    ((div-lt_iff_lt-mul {k = a} {x = c} {y = a} (layouts_pos (n - 1))).1 below, mod-lt c (layouts_pos (n - 1)))

-- what unpacking meets
pub uncode_zero : (n : ℕ) → marks (uncode n 0) ≡ 0
unfolding uncode merged_code marks ones
uncode_zero zero = refl
uncode_zero (suc n) =
    let some : 0 ≡ layouts n * layouts n → ⊥ = λ e. omega (arith, mul-le-mul_right {m = 1} {n = layouts n} (layouts n) (layouts_pos n), layouts_pos n) in
    rw (ne_eqb 0 (layouts n * layouts n) some, zero-div (layouts n), zero-mod (layouts n), uncode_zero n, zero-mul (2 ^ (2 ^ n)))

pub code_above_slot : (n c : ℕ) → c < layouts n → (c ≡ 0 → ⊥) → 0 < n
unfolding layouts
code_above_slot zero c h k = absurd (k (omega arith))
code_above_slot (suc n) c h k = omega arith

pub uncode_merged : (n c : ℕ) → 0 < n → c ≡ layouts (n - 1) * layouts (n - 1) → uncode n c ≡ merged
unfolding uncode merged_code
uncode_merged zero c h e = absurd (omega arith)
uncode_merged (suc n) c h e = rw (eq-eqb c (layouts n * layouts n) (rw (sub-one (suc n)) at e))

pub uncode_apart : (n c : ℕ) → 0 < n → (c ≡ layouts (n - 1) * layouts (n - 1) → ⊥)
    → marks (uncode n c) ≡ marks (uncode (n - 1) (c % layouts (n - 1))) * 2 ^ (2 ^ (n - 1)) + marks (uncode (n - 1) (c / layouts (n - 1)))
unfolding uncode merged_code marks
uncode_apart zero c h e = absurd (omega arith)
uncode_apart (suc n) c h e = rw (sub-one (suc n), ne_eqb c (layouts n * layouts n) (rw (sub-one (suc n)) at e))
