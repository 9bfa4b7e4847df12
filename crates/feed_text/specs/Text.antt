-- A line's text and decimal numbers, in ASCII. Document 01, 'The program's lines'. Cited by contracts and theorems.
use Rattle.std.specs.Prelude.{ℕ, zero, suc, ◌+◌, ◌-◌, ◌*◌, ◌/◌, ◌%◌, cond, List, [], ◌∷◌, ltb, take}
use Rattle.feed_text.specs.declared.text.Text.{Text}

-- the bytes of a text in use
abbrev pub content : Text → List ℕ
content t = take t.length t.bytes

-- the decimal digits of a number, in ASCII, before a text; k is no less than the number of digits
unfoldable pub digits_before : ℕ → ℕ → List ℕ → List ℕ
digits_before zero n text = text
digits_before (suc k) n text = cond (ltb n 10) ((48 + n) ∷ text) (digits_before k (n / 10) ((48 + n % 10) ∷ text))

-- a number of 64 bits has at most 20 digits
unfoldable pub decimal : ℕ → List ℕ
decimal n = digits_before 20 n []

-- the number that decimal digits stand for, after a number v in front
unfoldable pub number_after : ℕ → List ℕ → ℕ
number_after v [] = v
number_after v (x ∷ xs) = number_after (v * 10 + (x - 48)) xs

-- a line's last byte
abbrev pub newline : List ℕ
newline = 10 ∷ []
