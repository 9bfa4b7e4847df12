-- Words from bytes, high byte first. Document 01, 'The program's lines'. Cited by contracts and theorems.
use Rattle.std.specs.Prelude.{ℕ, ◌+◌, ◌*◌, ◌^◌, List, [], ◌∷◌}

abbrev pub word_of : ℕ → ℕ → ℕ → ℕ → ℕ
word_of a b c d = a * 2 ^ 24 + b * 2 ^ 16 + c * 2 ^ 8 + d

-- the whole words of a run of bytes; leftover bytes short of a word are none
unfoldable pub whole_words : List ℕ → List ℕ
whole_words [] = []
whole_words (a ∷ []) = []
whole_words (a ∷ b ∷ []) = []
whole_words (a ∷ b ∷ c ∷ []) = []
whole_words (a ∷ b ∷ c ∷ d ∷ bytes) = word_of a b c d ∷ whole_words bytes
