-- Laws of words from bytes that the code's proofs and the lines of a whole feed use.
use mathlib.Core.Path.{◌≡◌, refl, sym, ap, ◌∙◌}
use mathlib.Core.List.{List, [], ◌∷◌, ◌++◌}
use Prim.Native.Nat.{ℕ, zero, suc, ◌+◌, ◌*◌, ◌/◌, ◌≤◌, ◌<◌, min}
use native.Mathlib.Omega.{arith}
use native.Mathlib.Decide.{dec_lt}
use lib.ListN.{length, get_or, take, drop}
use lib.Seq.{take_at, take_all, length-take-le}
use Rattle.std.specs.List.{slice_index}
use Rattle.std.specs.Simd.{first_chunks}
use Rattle.word_bytes.specs.Words.{word_of, whole_words}

pub words_length : (bytes : List ℕ) → length (whole_words bytes) ≡ length bytes / 4
unfolding whole_words
words_length [] = refl
words_length (a ∷ []) = refl
words_length (a ∷ b ∷ []) = refl
words_length (a ∷ b ∷ c ∷ []) = refl
words_length (a ∷ b ∷ c ∷ d ∷ bytes) = omega (arith, words_length bytes)

-- word i of a run of bytes, by its four bytes
pub chunk_word : (k i : ℕ) (bytes : List ℕ) → i < k → 4 * k ≤ length bytes →
    let c = get_or (first_chunks 4 k bytes) i [] in
    get_or (whole_words bytes) i 0 ≡ slice_index c 0 * 16777216 + slice_index c 1 * 65536 + slice_index c 2 * 256 + slice_index c 3
unfolding whole_words
chunk_word zero i bytes l h = absurd (omega arith)
chunk_word (suc k) i [] l h = absurd (omega arith)
chunk_word (suc k) i (a ∷ []) l h = absurd (omega arith)
chunk_word (suc k) i (a ∷ b ∷ []) l h = absurd (omega arith)
chunk_word (suc k) i (a ∷ b ∷ c ∷ []) l h = absurd (omega arith)
chunk_word (suc k) zero (a ∷ b ∷ c ∷ d ∷ bytes) l h = refl
chunk_word (suc k) (suc i) (a ∷ b ∷ c ∷ d ∷ bytes) l h = chunk_word k i bytes (omega arith) (omega arith)

-- the first words of bytes that go on are those of the bytes at hand
pub words_front : (n : ℕ) (xs ys : List ℕ) → 4 * n ≤ length xs → take n (whole_words (xs ++ ys)) ≡ take n (whole_words xs)
unfolding whole_words
words_front zero xs ys h = refl
words_front (suc n) [] ys h = absurd (omega arith)
words_front (suc n) (a ∷ []) ys h = absurd (omega arith)
words_front (suc n) (a ∷ b ∷ []) ys h = absurd (omega arith)
words_front (suc n) (a ∷ b ∷ c ∷ []) ys h = absurd (omega arith)
words_front (suc n) (a ∷ b ∷ c ∷ d ∷ xs) ys h = ap (λ (ws : List ℕ). word_of a b c d ∷ ws) (words_front n xs ys (omega arith))

-- the words that are lent: as many as there is space for
pub lent_words : (n : ℕ) (ws d : List ℕ) → n ≡ min (length d) (length ws) → take n (take n ws ++ drop n d) ≡ take (length d) ws
lent_words n ws d e =
    let s = take_at (take n ws) (drop n d) n (length-take-le n ws (omega arith)) in
    elim (dec_lt (length d) (length ws)) [
      | yes l ↦
          let k : n ≡ length d = omega arith in
          s ∙ ap (λ (j : ℕ). take j ws) k
      | no l ↦ s ∙ take_all n ws (omega arith) ∙ sym (take_all (length d) ws (omega arith))
    ]
