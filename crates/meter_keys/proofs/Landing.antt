-- A key's hashes, and that its slot lies in its row.
use mathlib.Core.Path.{◌≡◌}
use mathlib.Core.Bool.{true}
use mathlib.Core.List.{List, [], ◌∷◌}
use Prim.Native.Nat.{ℕ, ◌*◌, ◌%◌, ◌^◌, ◌<◌}
use native.Mathlib.Nat.{mod-lt}
use native.Mathlib.Omega.{arith}
use lib.Bits.{bit_xor}
use Rattle.hash.specs.Hash.{basis, fnv, fnv_step, row_hash}
use Rattle.hash.proofs.Hashing.{slot_lt}
use Rattle.geometry.specs.Geometry.{valid_width}
use Rattle.geometry.proofs.Widths.{wide}
use Rattle.meter_keys.specs.Keys.{key_slot}

fnv_lt : (h : ℕ) (bytes : List ℕ) → h < 2 ^ 32 → fnv h bytes < 2 ^ 32
unfolding fnv fnv_step
fnv_lt h [] l = l
fnv_lt h (b ∷ bs) l = fnv_lt (bit_xor h b * 16777619 % 2 ^ 32) bs (mod-lt (bit_xor h b * 16777619) (omega arith))

-- a hash has 32 bits
pub hash_lt : (state r : ℕ) (key : List ℕ) → row_hash state r key < 2 ^ 32
unfolding fnv fnv_step
hash_lt state r key = fnv_lt (bit_xor state r * 16777619 % 2 ^ 32) key (mod-lt (bit_xor state r * 16777619) (omega arith))

-- a width has its share of the hashes for each slot
pub shares : (w : ℕ) → valid_width w ≡ true → 2 ^ 32 % w ≡ 0
shares w v = (wide w v).shares

pub key_in : (w : ℕ) (key : List ℕ) (r : ℕ) → valid_width w ≡ true → key_slot basis w key r < w
unfolding key_slot
key_in w key r v = slot_lt (row_hash basis r key) w (hash_lt basis r key) (wide w v).shares
