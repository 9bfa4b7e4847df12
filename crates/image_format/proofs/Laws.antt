-- Laws of widths, levels and the words of counters.
use mathlib.Core.Path.{◌≡◌, refl, sym, ap, ◌∙◌}
use mathlib.Core.Bool.{true, false}
use mathlib.Core.List.{[]}
use Prim.Native.Nat.{ℕ, zero, suc, ◌+◌, ◌-◌, ◌%◌, ◌^◌, ◌≤◌, ◌<◌, ◌*◌}
use native.Mathlib.Nat.{mod-eq_of_lt, mul-le-mul_right, pow-suc}
use native.Mathlib.Omega.{arith}
use lib.ListN.{length}
use native.Mathlib.Decide.{dec_lt}
use borrow.Table.Steps.{cases}
use borrow.Author.Tests.{eq-eqb, ne_eqb}
use lib.Dec.{eqb}
use lib.Pow.{pow_mono, pow_pos, pow-lt}
use Rattle.laws.proofs.Shifts.{one_shl}
use Rattle.group.specs.declared.Group.{Group}
use Rattle.group.specs.Results.{Reading}
use Rattle.group.specs.Group.{read}
use Rattle.geometry.specs.Geometry.{largest_log, valid_width}
use Rattle.geometry.proofs.Widths.{width_is}
use Rattle.image_format.specs.Image.{parts, word_count, level_at, is_first, slot_words, log_from, log_width}
use Rattle.image_format.specs.Write.{slot_size, slots_size}

-- a shift of a small number loses no bits
pub small_shl : (a level : ℕ) → a ≤ 8 → level ≤ 24 → a * 2 ^ level % 2 ^ 32 ≡ a * 2 ^ level
small_shl a level h k = mod-eq_of_lt {n = a * 2 ^ level} {m = 2 ^ 32} (omega (arith, pow_mono {i = level} {j = 24} k, mul-le-mul_right {m = a} {n = 8} (2 ^ level) h))

-- logarithms, tried from the largest down
pub log_most : (n w : ℕ) → 0 < n → log_from n w < n
unfolding log_from
log_most zero w h = absurd (omega arith)
log_most (suc zero) w h = cases (eqb (2 ^ 0) w) (λ t. rw t (omega arith)) (λ t. rw t (omega arith))
log_most (suc (suc k)) w h = cases (eqb (2 ^ suc k) w) (λ t. rw t (omega arith)) (λ t. rw t (omega (arith, log_most (suc k) w (omega arith))))

pub log_found : (n k : ℕ) → k < n → log_from n (2 ^ k) ≡ k
unfolding log_from
log_found zero k h = absurd (omega arith)
log_found (suc n) k h = elim (dec_lt k n) [
  | yes l ↦ rw (ne_eqb (2 ^ n) (2 ^ k) (λ e. omega (arith, pow-lt {i = k} {j = n} l))) (log_found n k l)
  | no l ↦ let e : n ≡ k = omega arith in rw (e, eq-eqb (2 ^ k) (2 ^ k) refl)
]

pub log_missing : (n w : ℕ) → ((k : ℕ) → k < n → 2 ^ k ≡ w → ⊥) → log_from n w ≡ 0
unfolding log_from
log_missing zero w h = refl
log_missing (suc n) w h = rw (ne_eqb (2 ^ n) w (h n (omega arith))) (log_missing n w (λ k l. h k (omega arith)))

-- the logarithm is the one that is rounded down
same_log : (k r w : ℕ) → 2 ^ k ≡ w → 2 ^ r ≤ w → w < 2 * 2 ^ r → k ≡ r
same_log k r w e a b = elim (dec_lt k r) [
  | yes l ↦ absurd (omega (arith, pow-lt {i = k} {j = r} l))
  | no l ↦ elim (dec_lt r k) [
    | yes m ↦ absurd (omega (arith, pow_mono {i = suc r} {j = k} (omega arith), pow-suc 2 r))
    | no m ↦ omega arith
  ]
]

pub rounded_log : (k w : ℕ) → k ≤ largest_log → 1 * 2 ^ k % 2 ^ 64 ≡ w → k ≡ log_width w
unfolding log_width
rounded_log k w h e =
    let f : w ≡ 2 ^ k = sym e ∙ one_shl 64 k (omega arith) in
    rw f (sym (log_found (largest_log + 1) k (omega arith)))

pub no_log : (k w : ℕ) → 2 ^ k ≤ w → w < 2 * 2 ^ k → (k ≤ largest_log → 1 * 2 ^ k % 2 ^ 64 ≡ w → ⊥) → 0 ≡ log_width w
unfolding log_width
no_log k w a b h = sym (log_missing (largest_log + 1) w (λ j l e.
    let s : j ≡ k = same_log j k w e a b in
    h (omega arith) (one_shl 64 k (omega arith) ∙ rw s at e)))

pub zero_log : (w : ℕ) → w ≡ 0 → 0 ≡ log_width w
unfolding log_width
zero_log w e = sym (log_missing (largest_log + 1) w (λ k l f. omega (arith, pow_pos k)))

-- the logarithm of a width is one
pub log_width_is : (w : ℕ) → valid_width w ≡ true → 2 ^ log_width w ≡ w
unfolding log_width
log_width_is w e = let r = width_is w e in rw r.3 (ap (λ (k : ℕ). 2 ^ k) (log_found (largest_log + 1) r.0 (omega (arith, r.2))))

pub log_width_most : (w : ℕ) → log_width w ≤ largest_log
unfolding log_width
log_width_most w = omega (arith, log_most (largest_log + 1) w (omega arith))

-- sizes
pub size_first : (m k level n : ℕ) → level ≡ level_at m k → is_first m k ≡ true → n ≡ word_count level → n ≡ slot_size m k
unfolding slot_size
size_first m k level n e f g = rw f (g ∙ ap word_count e)

pub size_other : (m k : ℕ) → is_first m k ≡ false → 0 ≡ slot_size m k
unfolding slot_size
size_other m k f = rw f

pub sizes_step : (n k m : ℕ) → k < n → slots_size (n - k) k m ≡ slot_size m k + slots_size (n - (k + 1)) (k + 1) m
unfolding slots_size
sizes_step n k m h =
    let e : n - k ≡ suc (n - (k + 1)) = omega arith in
    rw e

pub sizes_none : (n k m : ℕ) → n ≡ 0 → slots_size n k m ≡ 0
unfolding slots_size
sizes_none n k m e = rw e

pub parts_length : (n v : ℕ) → length (parts n v) ≡ n
unfolding parts
parts_length zero v = refl
parts_length (suc n) v = ap suc (parts_length n v)

-- the words of a slot
pub slot_none : (g : Group) (k : ℕ) → is_first g.merge k ≡ false → slot_words g k ≡ []
unfolding slot_words
slot_none g k e = rw e

pub slot_some : (g : Group) (k level n : ℕ) (r : Reading) → level ≡ level_at g.merge k → is_first g.merge k ≡ true → n ≡ word_count level → r ≡ read g k
    → parts n r.value ≡ slot_words g k
unfolding slot_words
slot_some g k level n r e f h i = rw (f, ← e, h, i)
