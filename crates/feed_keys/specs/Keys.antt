-- The key words of a record. Document 01, 'Images and feeds'. Cited by contracts.
use Rattle.std.specs.Prelude.{ℕ, zero, suc, ◌+◌, ◌-◌, ◌*◌, ◌/◌, ◌%◌, ◌^◌, Bool, ◌&&◌, List, [], ◌∷◌, eqb, ltb}
use Rattle.answer.specs.Numbers.{bad_payload}
use Rattle.word.specs.Step.{Step}
use Rattle.word.specs.Word.{go, next, payload, tested}

-- the kind of a key word
abbrev pub key_kind : ℕ
key_kind = 7

-- the number of words of a key of n bytes, three a word
abbrev pub key_words : ℕ → ℕ
key_words n = (n + 2) / 3

-- A key word for the first three of n bytes left: bits 24 to 27 and unused bytes, the lowest, are 0.
unfoldable pub key_payload : ℕ → ℕ → Bool
key_payload n v = ltb v (2 ^ 24) && eqb (v % 2 ^ (8 * (3 - n))) 0

-- the key word at a position, and k key words for n bytes
unfoldable pub key_word : ℕ → List ℕ → ℕ → Step
key_word n words p = tested words p key_kind (key_payload n (payload words p)) bad_payload

unfoldable pub check_key : ℕ → ℕ → List ℕ → ℕ → Step
check_key zero n words p = go p
check_key (suc k) n words p = next (key_word n words p) (λ q. check_key k (n - 3) words q)

-- byte i of a key whose words follow a record's first; the earliest byte of a word is the highest
unfoldable pub key_byte : List ℕ → ℕ → ℕ
key_byte words i = payload words (1 + i / 3) / 2 ^ (8 * (2 - i % 3)) % 256

-- n bytes of a key, from byte i on
unfoldable pub key_from : ℕ → List ℕ → ℕ → List ℕ
key_from zero words i = []
key_from (suc n) words i = key_byte words i ∷ key_from n words (i + 1)

-- the key of n bytes of a record
abbrev pub key_of : ℕ → List ℕ → List ℕ
key_of n words = key_from n words 0
