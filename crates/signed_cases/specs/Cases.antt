-- Lists of a signed meter's calls, with a counter and an estimate after them. Document 02, request 3. Cited by theorems.
use Rattle.std.specs.Prelude.{ℕ, ◌≡◌, true, false, cond, List, [], ◌∷◌, ℤ, pos, neg_ℤ}
use Rattle.hash.specs.Hash.{basis}
use Rattle.meter_keys.specs.Keys.{key_slot}
use Rattle.signed_number.specs.Number.{signed_of}
use Rattle.signed.specs.Signed.{estimated, signed_answer}
use Rattle.signed_claim.specs.Calls.{Call, clear, update, estimate, combine, from, Calls, none, then, run, done, Faithful}
use Rattle.signed_claim.specs.Claim.{counter_after, total_after}

-- Keys of one byte that land in row 0 of 32 slots at slots 10, 12, 13 and 16, two of them at 10: there the sign is minus for the one and
-- plus for the others.
abbrev pub minus_10 : List ℕ
minus_10 = 65 ∷ []

abbrev pub plus_10 : List ℕ
plus_10 = 122 ∷ []

abbrev pub plus_12 : List ℕ
plus_12 = 106 ∷ []

abbrev pub plus_13 : List ℕ
plus_13 = 98 ∷ []

abbrev pub plus_16 : List ℕ
plus_16 = 138 ∷ []

abbrev pub minus : ℕ → ℤ
minus n = neg_ℤ (pos n)

infixl 20 ◌▸◌
infixl 20 ◌▹◌
-- then a call that was accepted, and one that was refused, told the meter's 1 and 32
abbrev pub ◌▸◌ : Calls → Call → Calls
calls ▸ call = then calls 1 32 call true

abbrev pub ◌▹◌ : Calls → Call → Calls
calls ▹ call = then calls 1 32 call false

-- the next to last amount of one byte, and the last
abbrev pub near : Calls
near = none ▸ update plus_12 (pos 100) ▸ update plus_13 (minus 7)

-- 70,000 in slots 12 to 15, and 9 beside it
abbrev pub week : Calls
week = none ▸ update plus_12 (pos 70000) ▸ update plus_16 (pos 9)

-- Last week's 69,995 taken away: 5 is left, in a counter as wide as before. Then the same added again, and all of it taken away.
abbrev pub change : Calls
change = week ▸ combine true (from (none ▸ update plus_12 (pos 69995)))

abbrev pub back : Calls
back = change ▸ combine false (from (none ▸ update plus_12 (pos 69995)))

-- Every kind of call, accepted and refused: a clearing told an even depth, an update told another width, an estimate of no key.
abbrev pub every : Calls
every =
    then (then (back ▸ estimate plus_12 ▸ clear ▸ update minus_10 (pos 4)) 2 32 clear false) 1 64 (update minus_10 (pos 1)) false
    ▹ estimate []
    ▸ combine true (from change)

-- On a meter of 3 rows of 32 slots: each of the others meets the key of byte 65 in one or two rows only.
abbrev pub three : Calls → List ℕ → ℤ → Calls
three calls key amount = then calls 3 32 (update key amount) true

abbrev pub three_rows : Calls
three_rows = three (three (three (three none minus_10 (pos 50)) (66 ∷ []) (pos 7)) plus_10 (pos 20)) (68 ∷ []) (minus 20)

-- the numbers of the refused calls of a list, the last first
unfoldable pub numbers : ℕ → ℕ → Calls → List ℕ
numbers d w none = []
numbers d w (then calls d' w' call ok) = cond ok (numbers d w calls) ((done d w d' w' call (run d w calls)).status ∷ numbers d w calls)

-- A list of calls on a meter of d rows of 32 slots; a key, its counter in row 0 after the list, that counter's level, and the estimate.
pub record Case : Type 0 where
  pub d : ℕ
  pub calls : Calls
  pub refused : List ℕ
  pub key : List ℕ
  pub counter : ℤ
  pub level : ℕ
  pub figure : ℤ

abbrev pub slot : Case → ℕ
slot c = key_slot basis 32 c.key 0

abbrev pub Meets : Case → Type 0
Meets c =
    Faithful c.d 32 c.calls
    × (numbers c.d 32 c.calls ≡ c.refused)
    × (counter_after c.d 32 c.calls 0 (slot c) ≡ record { status = 0; value = signed_of c.counter; level = c.level })
    × (total_after c.d 32 c.calls 0 (slot c) ≡ c.counter)
    × (estimated c.d 32 (run c.d 32 c.calls) c.key ≡ signed_answer 0 c.figure)

abbrev pub AllMeet : List Case → Type 0
AllMeet [] = Unit
AllMeet (c ∷ cs) = Meets c × AllMeet cs

abbrev pub small : Calls → List ℕ → List ℕ → ℤ → ℕ → ℤ → Case
small calls refused key counter level figure =
    record { d = 1; calls = calls; refused = refused; key = key; counter = counter; level = level; figure = figure }

abbrev pub cases : List Case
cases =
    -- nothing
    small none [] plus_12 (pos 0) 0 (pos 0)
    -- one byte holds magnitudes to 127; past them the sibling is added with its sign
    ∷ small (near ▸ update plus_12 (pos 27)) [] plus_12 (pos 127) 0 (pos 127)
    ∷ small (near ▸ update plus_12 (pos 28)) [] plus_12 (pos 121) 1 (pos 121)
    ∷ small (near ▸ update plus_13 (minus 120)) [] plus_13 (minus 127) 0 (minus 127)
    -- the row's sign for the key, in the counter and in the estimate; and a zero of both signs
    ∷ small (none ▸ update minus_10 (pos 5)) [] minus_10 (minus 5) 0 (pos 5)
    ∷ small (none ▸ update minus_10 (pos 5)) [] plus_10 (minus 5) 0 (minus 5)
    ∷ small (none ▸ update minus_10 (pos 5) ▸ update plus_10 (pos 5)) [] minus_10 (pos 0) 0 (pos 0)
    -- sources added and taken away: only a clearing shrinks layouts
    ∷ small week [] plus_12 (pos 70000) 2 (pos 70000)
    ∷ small change [] plus_12 (pos 5) 2 (pos 5)
    ∷ small back [] plus_12 (pos 70000) 2 (pos 70000)
    ∷ small (back ▸ combine true (from back)) [] plus_12 (pos 0) 2 (pos 0)
    ∷ small (none ▸ update plus_13 (pos 3) ▸ combine true (from (none ▸ update plus_12 (pos 300)))) [] plus_13 (minus 297) 1 (minus 297)
    ∷ small (back ▸ clear ▸ update plus_12 (pos 4)) [] plus_12 (pos 4) 0 (pos 4)
    ∷ small every (4 ∷ 3 ∷ 12 ∷ []) plus_12 (minus 5) 2 (minus 5)
    ∷ small every (4 ∷ 3 ∷ 12 ∷ []) minus_10 (minus 4) 0 (pos 4)
    -- the rows give 30, 57 and 37
    ∷ record { d = 3; calls = three_rows; refused = []; key = minus_10; counter = minus 30; level = 0; figure = pos 37 }
    ∷ []
