-- How a watch list lies in lent bytes. Document 02, request 1. Cited by contracts and theorems. 64 bytes with the key length of each place,
-- the mark, 64 keys of 64 bytes, 64 estimates of 8 bytes, lowest first.
use Rattle.std.specs.Prelude.{ℕ, zero, suc, ◌+◌, ◌-◌, ◌*◌, Bool, true, false, ◌&&◌, List, [], ◌∷◌, ◌++◌, leb, length, get_or, take, drop}
use Rattle.little_endian.specs.Bytes.{number, bytes}
use Rattle.watch_list.specs.List.{Entry, Watch}

-- where the keys and the estimates start, and the bytes of a list
abbrev pub keys_at : ℕ
keys_at = 65

abbrev pub estimates_at : ℕ
estimates_at = 4161

abbrev pub list_size : ℕ
list_size = 4673

-- what each entry has in the three columns, and a column
unfoldable pub length_field : Entry → List ℕ
length_field e = length e.key ∷ []

unfoldable pub key_field : Entry → List ℕ
key_field e = e.key ++ e.unused

unfoldable pub estimate_field : Entry → List ℕ
estimate_field e = bytes 8 e.estimate

unfoldable pub column : (Entry → List ℕ) → List Entry → List ℕ
column field [] = []
column field (e ∷ es) = field e ++ column field es

-- the bytes of a list
unfoldable pub laid_out : ℕ → List Entry → List ℕ
laid_out mark places = column length_field places ++ (mark ∷ []) ++ column key_field places ++ column estimate_field places

unfoldable pub encode : Watch → List ℕ
encode watch = laid_out watch.mark (watch.entries ++ watch.free)

-- The list that bytes hold. Place k, and n places from place k on.
unfoldable pub key_bytes : List ℕ → ℕ → List ℕ
key_bytes list k = take 64 (drop (keys_at + k * 64) list)

unfoldable pub place_at : List ℕ → ℕ → Entry
place_at list k =
    record { key = take (get_or list k 0) (key_bytes list k); unused = drop (get_or list k 0) (key_bytes list k); estimate = number (take 8 (drop (estimates_at + k * 8) list)) }

unfoldable pub places_from : List ℕ → ℕ → ℕ → List Entry
places_from list zero k = []
places_from list (suc n) k = place_at list k ∷ places_from list n (suc k)

-- the places in use: those before the first whose key length is 0
unfoldable pub in_use : List ℕ → ℕ
in_use [] = 0
in_use (zero ∷ lengths) = 0
in_use (suc n ∷ lengths) = suc (in_use lengths)

unfoldable pub decode : List ℕ → Watch
decode list =
    record { mark = get_or list 64 0; entries = places_from list (in_use (take 64 list)) 0; free = places_from list (64 - in_use (take 64 list)) (in_use (take 64 list)) }

-- What breaks a list: a key length above 64, a length other than 0 after a 0, a mark above 1. Nothing else does.
unfoldable pub all_zero : List ℕ → Bool
all_zero [] = true
all_zero (zero ∷ bytes) = all_zero bytes
all_zero (suc b ∷ bytes) = false

unfoldable pub sound_lengths : List ℕ → Bool
sound_lengths [] = true
sound_lengths (zero ∷ lengths) = all_zero lengths
sound_lengths (suc n ∷ lengths) = leb (suc n) 64 && sound_lengths lengths

unfoldable pub sound : List ℕ → Bool
sound list = sound_lengths (take 64 list) && leb (get_or list 64 0) 1
