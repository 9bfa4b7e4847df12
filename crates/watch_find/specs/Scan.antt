-- Places of a list in which a key is looked for. The code's own terms.
use Rattle.std.specs.Prelude.{ℕ, ◌+◌, ◌-◌, ◌<◌, ◌≡◌, true, false, List, length}
use Rattle.meter_keys.specs.Keys.{same_key}
use Rattle.watch_list.specs.Layout.{list_size, sound, place_at, places_from}
use Rattle.watch_list.specs.Parts.{KeyLong, index_of}
use Rattle.watch_key.specs.Digest.{digest_of}

-- a sound list, and a key that is looked for in it with its digest
pub record Sought (list key : List ℕ) (sought : ℕ) : Type 0 where
  pub long : length list ≡ list_size
  pub is_sound : sound list ≡ true
  pub key_long : KeyLong key
  pub is_digest : sought ≡ digest_of key 0 (length key)

-- none of n places from place k on has the key
abbrev pub AllDiffer : List ℕ → ℕ → ℕ → List ℕ → Type 0
AllDiffer list k n key = (j : ℕ) → j < n → same_key (place_at list (k + j)).key key ≡ false

-- the key is in none of the places before k
abbrev pub Past : List ℕ → ℕ → List ℕ → ℕ → Type 0
Past list n key k = k + index_of key (places_from list (n - k) k) ≡ index_of key (places_from list n 0)
