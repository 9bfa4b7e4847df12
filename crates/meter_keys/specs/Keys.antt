-- A key's slot and sign in a row, and whether two keys are the same. Cited by contracts and theorems. Document 01, 'Where a key lands',
-- and document 02, request 3.
use Rattle.std.specs.Prelude.{ℕ, ◌^◌, ◌<◌, Bool, true, false, ◌&&◌, List, [], ◌∷◌, eqb, get_or}
use Rattle.hash.specs.Hash.{row_hash, slot_of, sign_of}

-- the slot of a key in row r, by a hash that goes on from a state
unfoldable pub key_slot : ℕ → ℕ → List ℕ → ℕ → ℕ
key_slot state w key r = slot_of (row_hash state r key) w

-- whether the sign of row r for a key is minus, by the same hash
unfoldable pub key_sign : ℕ → List ℕ → ℕ → Bool
key_sign state key r = sign_of (row_hash state r key)

-- a hash for each of d rows
abbrev pub HashesIn : ℕ → List ℕ → Type 0
HashesIn d hashes = (r : ℕ) → r < d → get_or hashes r 0 < 2 ^ 32

unfoldable pub same_key : List ℕ → List ℕ → Bool
same_key [] [] = true
same_key [] (b ∷ bs) = false
same_key (b ∷ bs) [] = false
same_key (b ∷ bs) (c ∷ cs) = eqb b c && same_key bs cs
