-- Which refusal is given: the first line of document 01's list that applies. Cited by contracts and theorems. A status (document 01:
-- number) of 0 says that no line applies.
use Rattle.std.specs.Prelude.{ℕ, zero, suc, Bool, cond, List, [], ◌∷◌, eqb, leb}
use Rattle.answer.specs.Numbers.{order}

-- a line's number, unless what it asks for holds
abbrev pub unless : Bool → ℕ → ℕ
unless holds number = cond holds 0 number

-- of tests made in checking order, the first that applies
unfoldable pub first_of : List ℕ → ℕ
first_of [] = 0
first_of (zero ∷ ss) = first_of ss
first_of (suc s ∷ ss) = suc s

-- where a number stands in a list
unfoldable pub place_in : List ℕ → ℕ → ℕ
place_in [] s = 0
place_in (n ∷ ns) s = cond (eqb n s) 0 (suc (place_in ns s))

-- of the statuses of two groups the one whose line comes first: 5 in any group comes before 6 in any
unfoldable pub earlier : ℕ → ℕ → ℕ
earlier zero t = t
earlier (suc s) zero = suc s
earlier (suc s) (suc t) = cond (leb (place_in order (suc s)) (place_in order (suc t))) (suc s) (suc t)

unfoldable pub earliest : List ℕ → ℕ
earliest [] = 0
earliest (s ∷ ss) = earlier s (earliest ss)
