-- Laws of bytes tested and added side by side.
use Rattle.std.proofs.Common.{◌≡◌, ℕ, zero, suc, ◌+◌, ◌/◌, ◌%◌, ◌<◌, ◌≤◌, Bool, true, false, not, ◌&&◌, ◌||◌, eqb, ltb, List, [], ◌∷◌, length, get_or, take, drop, sym, refl, ap, ◌∙◌, ap₂, fold, true≢false, add-one, arith, drop_of_length-le, drop-cons, ltb-true, le-ltb, lt-ltb, eq-eqb, ne_eqb, eqb-true}
use Rattle.std.specs.Prelude.{Some, None}
use mathlib.Core.Bool.{cond, and_assoc, or_assoc, and-true, or-false, and-eq-true_iff}
use native.Mathlib.Decide.{dec_lt}
use borrow.Author.Tests.{not-true}
use lib.Bits.{bit_or, or_add_and, and_le_l, and_le_r}
use Rattle.laws.proofs.Tests.{both_ways}
use Rattle.little_endian.specs.Bytes.{number}
use Rattle.little_endian.proofs.Bytes.{number_zero}
use Rattle.group_side.specs.Side.{any_merged, fit, sums, wrapped_sums}

-- two numbers taken together are 0 where both are
or_zero : (a b : ℕ) → eqb (bit_or a b) 0 ≡ (eqb a 0 && eqb b 0)
or_zero a b = both_ways (eqb (bit_or a b) 0) (eqb a 0 && eqb b 0)
    (λ e.
    let z = eqb-true (bit_or a b) 0 e in
    rw (eq-eqb a 0 (omega (arith, or_add_and a b, and_le_r a b)), eq-eqb b 0 (omega (arith, or_add_and a b, and_le_l a b))))
    (λ e.
    let p = (and-eq-true_iff (eqb a 0) (eqb b 0)).0 e in
    eq-eqb (bit_or a b) 0 (omega (arith, or_add_and a b, eqb-true a 0 p.0, eqb-true b 0 p.1)))

not_both : (p q : Bool) → not (p && q) ≡ (not p || not q)
not_both true q = refl
not_both false q = refl

-- merge bytes taken together, one by one
any_from : (ms : List ℕ) (any : ℕ) → not (eqb (fold (λ (a m : ℕ). bit_or a m) any ms) 0) ≡ (not (eqb any 0) || any_merged ms)
unfolding any_merged
any_from [] any = sym (or-false (not (eqb any 0)))
any_from (m ∷ ms) any =
    any_from ms (bit_or any m)
    ∙ rw (or_zero any m, not_both (eqb any 0) (eqb m 0)) (or_assoc (not (eqb any 0)) (not (eqb m 0)) (any_merged ms))

pub any_fold : (ms : List ℕ) → not (eqb (fold (λ (a m : ℕ). bit_or a m) 0 ms) 0) ≡ any_merged ms
any_fold ms = any_from ms 0

-- none merged: each byte is 0
pub none_merged_lem : (ms : List ℕ) → any_merged ms ≡ false → (i : ℕ) → get_or ms i 0 ≡ 0
unfolding any_merged
none_merged_lem [] e i = refl
none_merged_lem (m ∷ ms) e i = go (eqb m 0) refl (none_merged_lem ms) e i
  where
    go : (z : Bool) → eqb m 0 ≡ z → (any_merged ms ≡ false → (i : ℕ) → get_or ms i 0 ≡ 0) → (not z || any_merged ms) ≡ false → (i : ℕ) → get_or (m ∷ ms) i 0 ≡ 0
    go true f rest e zero = eqb-true m 0 f
    go true f rest e (suc i) = rest e i
    go false f rest e i = absurd (true≢false e)

zero_none : (ms : List ℕ) → ((i : ℕ) → get_or ms i 0 ≡ 0) → any_merged ms ≡ false
unfolding any_merged
zero_none [] h = refl
zero_none (m ∷ ms) h = rw (eq-eqb m 0 (h 0)) (zero_none ms (λ i. h (suc i)))

-- merge bytes as one word: it is 0 exactly where none is merged, whatever their number
word_none : (ms : List ℕ) → eqb (number ms) 0 ≡ not (any_merged ms)
word_none ms = both_ways (eqb (number ms) 0) (not (any_merged ms))
    (λ e. ap not (zero_none ms ((number_zero ms).0 (eqb-true (number ms) 0 e))))
    (λ e. eq-eqb (number ms) 0 ((number_zero ms).1 (none_merged_lem ms (not-true _ e))))

-- and two words taken together
pub words_none : (ms ns : List ℕ) → eqb (bit_or (number ms) (number ns)) 0 ≡ (not (any_merged ms) && not (any_merged ns))
words_none ms ns = or_zero (number ms) (number ns) ∙ ap₂ ◌&&◌ (word_none ms) (word_none ns)

-- the sum of two bytes passes 255 where it carries
carry_none : (a b : ℕ) → eqb ((a + b) / 256) 0 ≡ ltb (a + b) 256
carry_none a b = elim (dec_lt (a + b) 256) [
  | yes l ↦ eq-eqb ((a + b) / 256) 0 (omega arith) ∙ sym (lt-ltb (a + b) 256 l)
  | no l ↦ ne_eqb ((a + b) / 256) 0 (λ e. omega arith) ∙ sym (le-ltb (a + b) 256 (omega arith))
]

module _ (xs ys : List ℕ) (i : ℕ) (h : i < length xs) (k : i < length ys) where
  fit_cons : fit (drop i xs) (drop i ys) ≡ (ltb (get_or xs i 0 + get_or ys i 0) 256 && fit (drop (i + 1) xs) (drop (i + 1) ys))
  unfolding fit
  fit_cons = rw (drop-cons xs i 0 h, drop-cons ys i 0 k, add-one i)

  -- sums tested one by one
  pub fit_turn : (carries : ℕ)
      → (eqb (bit_or carries ((get_or xs i 0 + get_or ys i 0) / 256)) 0 && fit (drop (i + 1) xs) (drop (i + 1) ys)) ≡ (eqb carries 0 && fit (drop i xs) (drop i ys))
  fit_turn carries =
      rw (or_zero carries ((get_or xs i 0 + get_or ys i 0) / 256), carry_none (get_or xs i 0) (get_or ys i 0), fit_cons)
      (and_assoc (eqb carries 0) (ltb (get_or xs i 0 + get_or ys i 0) 256) (fit (drop (i + 1) xs) (drop (i + 1) ys)))

pub fit_end : (xs ys : List ℕ) (i carries : ℕ) → length xs ≤ i → (eqb carries 0 && fit (drop i xs) (drop i ys)) ≡ eqb carries 0
unfolding fit
fit_end xs ys i carries h = rw (drop_of_length-le xs h) (and-true (eqb carries 0))

-- sums made one by one
pub length_wrapped : (xs ys : List ℕ) → length (wrapped_sums xs ys) ≡ length xs
unfolding wrapped_sums
length_wrapped [] ys = refl
length_wrapped (x ∷ xs) [] = refl
length_wrapped (x ∷ xs) (y ∷ ys) = ap suc (length_wrapped xs ys)

pub wrapped_at : (xs ys : List ℕ) (i : ℕ) → i < length xs → i < length ys → get_or (wrapped_sums xs ys) i 0 ≡ (get_or xs i 0 + get_or ys i 0) % 256
unfolding wrapped_sums
wrapped_at [] ys i h k = absurd (omega arith)
wrapped_at (x ∷ xs) [] i h k = absurd (omega arith)
wrapped_at (x ∷ xs) (y ∷ ys) zero h k = refl
wrapped_at (x ∷ xs) (y ∷ ys) (suc i) h k = wrapped_at xs ys i (omega arith) (omega arith)

-- none passes 255: they are the sums
pub wrapped_fit : (xs ys : List ℕ) → fit xs ys ≡ true → wrapped_sums xs ys ≡ sums xs ys
unfolding fit sums wrapped_sums
wrapped_fit [] ys e = refl
wrapped_fit (x ∷ xs) [] e = refl
wrapped_fit (x ∷ xs) (y ∷ ys) e =
    let p = (and-eq-true_iff (ltb (x + y) 256) (fit xs ys)).0 e in
    let small : (x + y) % 256 ≡ x + y = omega (arith, ltb-true (x + y) 256 p.0) in
    rw small (ap (λ (zs : List ℕ). (x + y) ∷ zs) (wrapped_fit xs ys p.1))

-- bytes tested in two parts
fit_none : (xs : List ℕ) → fit xs [] ≡ true
unfolding fit
fit_none [] = refl
fit_none (x ∷ xs) = refl

pub fit_split : (k : ℕ) (xs ys : List ℕ) → fit xs ys ≡ (fit (take k xs) (take k ys) && fit (drop k xs) (drop k ys))
unfolding fit
fit_split zero xs ys = refl
fit_split (suc k) [] ys = refl
fit_split (suc k) (x ∷ xs) [] = sym (fit_none (drop k xs))
fit_split (suc k) (x ∷ xs) (y ∷ ys) =
    ap (λ (b : Bool). ltb (x + y) 256 && b) (fit_split k xs ys) ∙ sym (and_assoc (ltb (x + y) 256) (fit (take k xs) (take k ys)) (fit (drop k xs) (drop k ys)))

-- where the elements of a list are that are left of it from a place on
pub front_at : (xs : List ℕ) (n x : ℕ) (rest : List ℕ) → x ∷ rest ≡ drop n xs → (n < length xs) × (x ≡ get_or xs n 0) × (rest ≡ drop (n + 1) xs)
front_at [] zero x rest e = cc
front_at [] (suc n) x rest e = cc
front_at (y ∷ ys) zero x rest e = let p : x ≡ y = cc in let q : rest ≡ ys = cc in (omega arith, p, q)
front_at (y ∷ ys) (suc n) x rest e = let r = front_at ys n x rest e in (omega arith, r.1, r.2 ∙ ap (λ (k : ℕ). drop k ys) (add-one n) ∙ ap (λ (k : ℕ). drop k (y ∷ ys)) (sym (add-one (suc n))))

-- sums that are handed on if a test says so
pub sums_some : (b : Bool) (xs ys : List ℕ) → Some ys ≡ cond b (Some xs) None → (b ≡ true) × (ys ≡ xs)
sums_some true xs ys e = (refl, cc)
sums_some false xs ys e = cc

pub sums_none : (b : Bool) (xs : List ℕ) → None ≡ cond b (Some xs) None → b ≡ false
sums_none true xs e = cc
sums_none false xs e = refl
