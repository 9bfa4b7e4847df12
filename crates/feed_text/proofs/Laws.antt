-- Laws of decimal numbers and lines that the code's proofs use, and what decimal digits are worth.
use mathlib.Core.Path.{◌≡◌, sym, ap, ◌∙◌}
use mathlib.Core.List.{List, [], ◌∷◌, ◌++◌, append_assoc, append-nil}
use Prim.Native.Nat.{ℕ, zero, suc, ◌+◌, ◌-◌, ◌*◌, ◌/◌, ◌%◌, ◌^◌, ◌≤◌, ◌<◌}
use native.Mathlib.Nat.{div-lt_iff_lt-mul, pow-suc}
use native.Mathlib.Numerals.{sub-one}
use native.Mathlib.Omega.{arith}
use native.Mathlib.Decide.{dec_lt}
use borrow.Author.Tests.{lt-ltb, le-ltb}
use Rattle.std.specs.Fmt as fmt
use Rattle.std.proofs.lemmas.Fmt.{decimal_digit, decimal_step}
use Rattle.feed_text.specs.Text.{digits_before, decimal, number_after}

-- the places that a number's digits need
pub two_places : (k n : ℕ) → 10 ≤ n → n < 10 ^ k → 2 ≤ k
two_places zero n h l = absurd (omega arith)
two_places (suc zero) n h l = absurd (omega arith)
two_places (suc (suc k)) n h l = omega arith

pub less_places : (k n : ℕ) → 1 ≤ k → n < 10 ^ k → n / 10 < 10 ^ (k - 1)
less_places zero n h l = absurd (omega arith)
less_places (suc k) n h l = rw (sub-one (suc k)) ((div-lt_iff_lt-mul {k = 10} {x = n} {y = 10 ^ k} (omega arith)).1 (omega (arith, pow-suc 10 k)))

-- the digits are those that the library prints
printed_before : (k n : ℕ) (text : List ℕ) → n < 10 ^ k → n < 2 ^ 64 → 1 ≤ k → digits_before k n text ≡ fmt.decimal n ++ text
unfolding digits_before
printed_before zero n text h w p = absurd (omega arith)
printed_before (suc k) n text h w p = elim (dec_lt n 10) [
  | yes l ↦ rw (lt-ltb n 10 l, decimal_digit n l)
  | no l ↦
      let m : 10 ≤ n = omega arith in
      let q = less_places (suc k) n (omega arith) h in
      rw (le-ltb n 10 m, decimal_step n m w, append_assoc) (printed_before k (n / 10) ((48 + n % 10) ∷ text) (rw (sub-one (suc k)) at q) (omega arith) (omega (arith, two_places (suc k) n m h)))
]

pub printed : (n : ℕ) → n < 2 ^ 64 → fmt.decimal n ≡ decimal n
unfolding decimal
printed n h = sym (append-nil _) ∙ sym (printed_before 20 n [] (omega arith) h (omega arith))

-- The digits of a number are worth that number.
after_digits : (k n : ℕ) (text : List ℕ) → n < 10 ^ k → 1 ≤ k → number_after 0 (digits_before k n text) ≡ number_after n text
unfolding digits_before number_after
after_digits zero n text h p = absurd (omega arith)
after_digits (suc k) n text h p = elim (dec_lt n 10) [
  | yes l ↦ rw (lt-ltb n 10 l) (ap (λ (v : ℕ). number_after v text) (omega arith))
  | no l ↦
      let m : 10 ≤ n = omega arith in
      let e : n / 10 * 10 + (48 + n % 10 - 48) ≡ n = omega arith in
      let q = less_places (suc k) n (omega arith) h in
      rw (le-ltb n 10 m) (after_digits k (n / 10) ((48 + n % 10) ∷ text) (rw (sub-one (suc k)) at q) (omega (arith, two_places (suc k) n m h)) ∙ ap (λ (v : ℕ). number_after v text) e)
]

pub decimal_value : (n : ℕ) → n < 2 ^ 64 → number_after 0 (decimal n) ≡ n
unfolding decimal number_after
decimal_value n h = after_digits 20 n [] (omega arith) (omega arith)
