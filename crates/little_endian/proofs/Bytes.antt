-- Bytes and the number that they make.
use mathlib.Core.Path.{◌≡◌, refl, sym, ap, ◌∙◌}
use Prim.Native.Nat.{ℕ, zero, suc, ◌+◌, ◌*◌, ◌/◌, ◌%◌, ◌^◌, ◌<◌}
use mathlib.Core.List.{List, [], ◌∷◌}
use native.Mathlib.Nat.{div-lt_iff_lt-mul, div-div-eq-div-mul, mul_comm}
use native.Mathlib.Omega.{arith}
use lib.ListN.{length, get_or, drop, drop_of_length-le}
use lib.Pow.{pow-add}
use lib.Seq.{drop-cons}
use Rattle.std.specs.Int.{w64, from_le_bytes, to_le_bytes}
use Rattle.laws.proofs.Lists.{Bytes}
use Rattle.little_endian.specs.Bytes.{number, bytes}

pow_byte : (n : ℕ) → 2 ^ (8 * suc n) ≡ 256 * 2 ^ (8 * n)
pow_byte n = ap (λ (k : ℕ). 2 ^ k) (omega arith) ∙ pow-add 2 8 (8 * n)

pub number_lt : (xs : List ℕ) → Bytes xs → number xs < 2 ^ (8 * length xs)
unfolding number
number_lt [] h = omega arith
number_lt (b ∷ bs) h = rw (pow_byte (length bs)) (omega (arith, h 0, number_lt bs (λ i. h (suc i))))

pub number_bytes : (n v : ℕ) → v < 2 ^ (8 * n) → number (bytes n v) ≡ v
unfolding number bytes
number_bytes zero v h = omega arith
number_bytes (suc n) v h =
    let small : v / 256 < 2 ^ (8 * n) = (div-lt_iff_lt-mul {k = 256} {x = v} {y = 2 ^ (8 * n)} (omega arith)).1 (omega (arith, pow_byte n, mul_comm (2 ^ (8 * n)) 256)) in
    rw (number_bytes n (v / 256) small) (omega arith)

pub bytes_number : (xs : List ℕ) → Bytes xs → bytes (length xs) (number xs) ≡ xs
unfolding number bytes
bytes_number [] h = refl
bytes_number (b ∷ bs) h =
    let b< = h 0 in
    let low : (b + 256 * number bs) % 256 ≡ b = omega arith in
    let high : (b + 256 * number bs) / 256 ≡ number bs = omega arith in
    rw (low, high) (ap (λ (l : List ℕ). b ∷ l) (bytes_number bs (λ i. h (suc i))))

zero_bytes : (xs : List ℕ) → number xs ≡ 0 → (i : ℕ) → get_or xs i 0 ≡ 0
unfolding number
zero_bytes [] e i = refl
zero_bytes (b ∷ bs) e zero = omega arith
zero_bytes (b ∷ bs) e (suc i) = zero_bytes bs (omega arith) i

bytes_zero : (xs : List ℕ) → ((i : ℕ) → get_or xs i 0 ≡ 0) → number xs ≡ 0
unfolding number
bytes_zero [] h = refl
bytes_zero (b ∷ bs) h = omega (arith, h 0, bytes_zero bs (λ i. h (suc i)))

-- the number is 0 exactly where every byte is, whatever the number of bytes
pub number_zero : (xs : List ℕ) → (number xs ≡ 0 → (i : ℕ) → get_or xs i 0 ≡ 0) × (((i : ℕ) → get_or xs i 0 ≡ 0) → number xs ≡ 0)
number_zero xs = (zero_bytes xs, bytes_zero xs)

pub bytes_length : (n v : ℕ) → length (bytes n v) ≡ n
unfolding bytes
bytes_length zero v = refl
bytes_length (suc n) v = ap suc (bytes_length n (v / 256))

-- the library's words for the same, at eight bytes
pub bytes_eight : (v : ℕ) → to_le_bytes w64 v ≡ bytes 8 v
unfolding bytes
bytes_eight v = simp div-div-eq-div-mul

-- n elements of a list from the i-th
elements : ℕ → ℕ → List ℕ → List ℕ
elements zero i xs = []
elements (suc n) i xs = get_or xs i 0 ∷ elements n (suc i) xs

elements_are : (n i : ℕ) (xs : List ℕ) → i + n ≡ length xs → elements n i xs ≡ drop i xs
unfolding elements
elements_are zero i xs h = sym (drop_of_length-le xs {i = i} (omega arith))
elements_are (suc n) i xs h = rw (drop-cons xs i 0 (omega arith)) (ap (λ (l : List ℕ). get_or xs i 0 ∷ l) (elements_are n (suc i) xs (omega arith)))

pub number_eight : (xs : List ℕ) → length xs ≡ 8 → from_le_bytes w64 xs ≡ number xs
unfolding number elements
number_eight xs h = omega (arith, ap number (elements_are 8 0 xs (sym h)))
