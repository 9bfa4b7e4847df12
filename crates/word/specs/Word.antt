-- Words of images and feeds, and the first faulty one. Cited by contracts. Document 01, 'Images and feeds' and 'Turned away, in checking
-- order'.
use Rattle.std.specs.Prelude.{ℕ, ◌+◌, ◌/◌, ◌%◌, ◌^◌, Bool, cond, ◌&&◌, List, eqb, ltb, length, get_or}
use Rattle.answer.specs.Numbers.{bad_payload, bad_word}
use Rattle.word.specs.Step.{Step}

-- the kinds that images and feeds share
abbrev pub head_kind : ℕ
head_kind = 1

abbrev pub end_kind : ℕ
end_kind = 4

-- read on from a position; and a fault at a position
abbrev pub go : ℕ → Step
go p = record { status = 0; position = p }

abbrev pub stop : ℕ → ℕ → Step
stop s p = record { status = s; position = p }

-- the next test, unless a word before is faulty
unfoldable pub next : Step → (ℕ → Step) → Step
next s f = cond (eqb s.status 0) (f s.position) s

-- the payload of the word at a position: its low 28 bits
unfoldable pub payload : List ℕ → ℕ → ℕ
payload words p = get_or words p 0 % 2 ^ 28

-- whether a word is there and has the kind that is due, in its top four bits
unfoldable pub is_due : List ℕ → ℕ → ℕ → Bool
is_due words p kind = ltb p (length words) && eqb (get_or words p 0 / 2 ^ 28) kind

-- A word of a kind: a test of its payload, and the number of the line that a failed test gives. 8 comes first.
unfoldable pub tested : List ℕ → ℕ → ℕ → Bool → ℕ → Step
tested words p kind holds line = cond (is_due words p kind) (cond holds (go (p + 1)) (stop line p)) (stop bad_word p)

-- a word of a kind with a payload below a limit
unfoldable pub below : List ℕ → ℕ → ℕ → ℕ → Step
below words p kind limit = tested words p kind (ltb (payload words p) limit) bad_payload
