-- What is looked for in a list's bytes, and changes of them in place. The code's own terms.
use Rattle.std.specs.Prelude.{ℕ, suc, ◌+◌, ◌*◌, ◌≤◌, ◌≡◌, true, cond, List, [], ◌∷◌, ◌++◌, length, take, drop, replicate}
use Rattle.meter_keys.specs.Keys.{same_key}
use Rattle.watch_list.specs.List.{Entry}
use Rattle.watch_list.specs.Layout.{keys_at, estimates_at, list_size, length_field, key_field, estimate_field, in_use, sound}

-- a sound list's bytes, n places of which are in use, and a key of a valid length
pub record Holds (list : List ℕ) (n : ℕ) : Type 0 where
  pub long : length list ≡ list_size
  pub is_sound : sound list ≡ true
  pub entries : n ≡ in_use (take 64 list)

abbrev pub KeyLong : List ℕ → Type 0
KeyLong key = (1 ≤ length key) × (length key ≤ 64)

-- the first entry that has a key, else how many there are
unfoldable pub index_of : List ℕ → List Entry → ℕ
index_of key [] = 0
index_of key (e ∷ es) = cond (same_key e.key key) 0 (suc (index_of key es))

-- bytes put in place of others
unfoldable pub put : List ℕ → ℕ → List ℕ → List ℕ
put xs at ys = take at xs ++ ys ++ drop (at + length ys) xs

-- a part of `width` bytes taken out: what follows it up to `end` moves up, and zeros come before `end`
unfoldable pub closed : List ℕ → ℕ → ℕ → ℕ → List ℕ
closed xs at end width = take at xs ++ drop (at + width) (take end xs) ++ replicate width 0 ++ drop end xs

-- an entry put in place i, and place i of n taken out, in the three columns
unfoldable pub put_place : List ℕ → ℕ → Entry → List ℕ
put_place list i e = put (put (put list i (length_field e)) (keys_at + i * 64) (key_field e)) (estimates_at + i * 8) (estimate_field e)

unfoldable pub closed_place : List ℕ → ℕ → ℕ → List ℕ
closed_place list i n = closed (closed (closed list i n 1) (keys_at + i * 64) (keys_at + n * 64) 64) (estimates_at + i * 8) (estimates_at + n * 8) 8
