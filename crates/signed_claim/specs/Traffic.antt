-- The traffic of a signed meter, and the totals of blocks. Document 02, request 3. Cited by theorems. Nothing here knows of a meter's
-- memory.
use Rattle.std.specs.Prelude.{ℕ, Bool, cond, List, [], ◌∷◌, eqb, ℤ, pos, ◌+ℤ◌}
use Rattle.hash.specs.Hash.{basis}
use Rattle.meter_keys.specs.Keys.{key_sign}
use Rattle.signed_number.specs.Number.{times_sign}
use Rattle.traffic.specs.Traffic.{block_of}

-- a list of pairs of key and amount
pub record Pair : Type 0 where
  pub key : List ℕ
  pub amount : ℤ

-- what a pair adds to block i of level n in row r: its amount times the row's sign for its key, if the key lands there
unfoldable pub share : ℕ → ℕ → ℕ → ℕ → Pair → ℤ
share w r n i p = cond (eqb (block_of w r n p.key) i) (times_sign (key_sign basis p.key r) p.amount) (pos 0)

-- a block's total
unfoldable pub block_total : ℕ → ℕ → List Pair → ℕ → ℕ → ℤ
block_total w r [] n i = pos 0
block_total w r (p ∷ ps) n i = share w r n i p +ℤ block_total w r ps n i

-- pairs times a sign: those of a source that is taken away have the other sign
unfoldable pub times_pairs : Bool → List Pair → List Pair
times_pairs minus [] = []
times_pairs minus (p ∷ ps) = record { key = p.key; amount = times_sign minus p.amount } ∷ times_pairs minus ps
