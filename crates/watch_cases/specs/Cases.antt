-- Lists of updates through a watch list and takings off, with what is listed after them. Document 02, request 1. Cited by theorems.
use Rattle.std.specs.Prelude.{ℕ, zero, suc, ◌≡◌, true, false, List, [], ◌∷◌, length}
use Rattle.watch_claim.specs.Steps.{Step, update, remove, mark_after, entries_after, listed_after, Told}
use Rattle.watch_claim.specs.Claim.{contents}

-- Keys of one byte that land apart. The meter has 1 row of 32 slots.
abbrev pub a : List ℕ
a = 10 ∷ []

abbrev pub b : List ℕ
b = 74 ∷ []

-- an update with the threshold 300
abbrev pub add : List ℕ → ℕ → Step
add key amount = update 1 32 key amount 300

-- a list of steps, the last first, with the keys and estimates that are listed after it
pub record Case : Type 0 where
  pub steps : List Step
  pub listing : List (List ℕ × ℕ)

abbrev pub after : List Step → List (List ℕ × ℕ) → Case
after steps listing = record { steps = steps; listing = listing }

abbrev pub Meets : Case → Type 0
Meets c = Told 1 32 300 c.steps × (mark_after 1 32 c.steps ≡ 0) × (contents (entries_after 1 32 c.steps) ≡ c.listing)

abbrev pub AllMeet : List Case → Type 0
AllMeet [] = Unit
AllMeet (c ∷ cs) = Meets c × AllMeet cs

-- Two keys join, each when its estimate reaches the threshold.
abbrev pub joining : List Step
joining = add b 1 ∷ add b 299 ∷ add a 300 ∷ []

-- Refused: a key that is too short, a threshold of 0, another width.
abbrev pub refused : List Step → List Step
refused steps = remove [] ∷ update 1 32 a 9 0 ∷ update 1 64 a 9 300 ∷ steps

-- a is taken off and joins again, at another place
abbrev pub again : List Step
again = add a 1 ∷ remove a ∷ refused (add a 5 ∷ joining)

abbrev pub cases : List Case
cases =
    after [] []
    ∷ after (add a 300 ∷ []) ((a, 300) ∷ [])
    ∷ after (add b 299 ∷ add a 300 ∷ []) ((a, 300) ∷ [])
    ∷ after joining ((a, 300) ∷ (b, 300) ∷ [])
    ∷ after (add a 5 ∷ joining) ((a, 305) ∷ (b, 300) ∷ [])
    ∷ after (refused (add a 5 ∷ joining)) ((a, 305) ∷ (b, 300) ∷ [])
    ∷ after (remove a ∷ refused (add a 5 ∷ joining)) ((b, 300) ∷ [])
    ∷ after again ((b, 300) ∷ (a, 306) ∷ [])
    ∷ after (remove b ∷ again) ((a, 306) ∷ [])
    ∷ after (remove b ∷ remove b ∷ again) ((a, 306) ∷ [])
    ∷ after (add b 0 ∷ remove b ∷ again) ((a, 306) ∷ (b, 300) ∷ [])
    ∷ []

-- updates of the keys of byte 0, 1, .. n - 1 by 1, with the threshold 1
abbrev pub one : ℕ → Step
one n = update 1 32 (n ∷ []) 1 1

unfoldable pub many : ℕ → List Step
many zero = []
many (suc n) = one n ∷ many n

-- 64 keys leave the mark off. The 65th sets it and does not join. A taking off leaves the mark, and then the 65th joins.
pub record Full : Type 0 where
  pub told : Told 1 32 1 (one 64 ∷ remove (0 ∷ []) ∷ many 65)
  pub filled : length (entries_after 1 32 (many 64)) ≡ 64
  pub off : mark_after 1 32 (many 64) ≡ 0
  pub on : mark_after 1 32 (many 65) ≡ 1
  pub no_place : listed_after 1 32 (many 65) (64 ∷ []) ≡ false
  pub as_many : length (entries_after 1 32 (many 65)) ≡ 64
  pub stays : mark_after 1 32 (remove (0 ∷ []) ∷ many 65) ≡ 1
  pub joins : listed_after 1 32 (one 64 ∷ remove (0 ∷ []) ∷ many 65) (64 ∷ []) ≡ true
  pub still : mark_after 1 32 (one 64 ∷ remove (0 ∷ []) ∷ many 65) ≡ 1
