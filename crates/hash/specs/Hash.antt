-- FNV-1a of 32 bits, and the slot and the sign of a hash. Document 01, 'Where a key lands', and document 02, request 3. Cited by contracts.
use Rattle.std.specs.Prelude.{ℕ, ◌*◌, ◌/◌, ◌%◌, ◌^◌, Bool, List, [], ◌∷◌, eqb}
use Rattle.std.specs.Int.Bits.{bit_xor}

-- the state before the first byte
abbrev pub basis : ℕ
basis = 2166136261

-- a byte: exclusive or, multiply by the FNV prime, keep 32 bits
unfoldable pub fnv_step : ℕ → ℕ → ℕ
fnv_step h b = bit_xor h b * 16777619 % 2 ^ 32

-- the state after a run of bytes
unfoldable pub fnv : ℕ → List ℕ → ℕ
fnv h [] = h
fnv h (b ∷ bs) = fnv (fnv_step h b) bs

-- the hash of a key in a row, gone on from a state: the row number as one byte, then the key
abbrev pub row_hash : ℕ → ℕ → List ℕ → ℕ
row_hash state row key = fnv state (row ∷ key)

-- the slot of a hash in a row of w slots
unfoldable pub slot_of : ℕ → ℕ → ℕ
slot_of h w = h / (2 ^ 32 / w)

-- whether the sign of a hash is minus: its bit 15 is set
unfoldable pub sign_of : ℕ → Bool
sign_of h = eqb (h / 2 ^ 15 % 2) 1
