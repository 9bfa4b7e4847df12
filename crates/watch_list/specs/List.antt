-- A watch list: keys in the order they joined, each with an estimate, and a mark. Document 02, request 1. Cited by contracts and theorems.
use Rattle.std.specs.Prelude.{ℕ, ◌-◌, Bool, false, cond, ◌||◌, List, [], ◌∷◌, ◌++◌, leb, length, replicate}
use Rattle.meter_keys.specs.Keys.{same_key}

-- An entry: a key of 1 to 64 bytes, and the estimate that it had at its last update accepted through the list. It has a place of 64 bytes
-- for its key; those past the key are unused and may hold anything.
pub record Entry : Type 0 where
  pub key : List ℕ
  pub unused : List ℕ
  pub estimate : ℕ

-- A list: the mark, 0 or 1; the entries, in the order they joined; the free places, whose keys are empty. There are 64 places in all.
pub record Watch : Type 0 where
  pub mark : ℕ
  pub entries : List Entry
  pub free : List Entry

-- whether a key is listed
unfoldable pub listed : List ℕ → List Entry → Bool
listed key [] = false
listed key (e ∷ es) = same_key e.key key || listed key es

-- A key joins after all others, in the first free place, where its unused bytes are 0. Where no place is free the mark is set instead.
abbrev pub joining : List ℕ → ℕ → Entry
joining key estimate = record { key = key; unused = replicate (64 - length key) 0; estimate = estimate }

unfoldable pub joined : List ℕ → ℕ → ℕ → List Entry → List Entry → Watch
joined key estimate mark entries [] = record { mark = 1; entries = entries; free = [] }
joined key estimate mark entries (place ∷ places) = record { mark = mark; entries = entries ++ (joining key estimate ∷ []); free = places }

-- A listed key's estimate is renewed, at the first place that has the key.
unfoldable pub renewed : List ℕ → ℕ → List Entry → List Entry
renewed key estimate [] = []
renewed key estimate (e ∷ es) =
    cond (same_key e.key key) (record { key = e.key; unused = e.unused; estimate = estimate } ∷ es) (e ∷ renewed key estimate es)

-- What an accepted update of a key leaves, by the estimate after it: a listed key is renewed; one that is not listed joins exactly when
-- the estimate is at or above the threshold.
unfoldable pub noted : List ℕ → ℕ → ℕ → Watch → Watch
noted key estimate threshold watch =
    cond (listed key watch.entries) (record { mark = watch.mark; entries = renewed key estimate watch.entries; free = watch.free })
    (cond (leb threshold estimate) (joined key estimate watch.mark watch.entries watch.free) watch)

-- Taking a key off: the entries after the first place that has it move up by one, and the last place in use becomes free, all 0. A key
-- that is not listed changes nothing.
unfoldable pub without : List ℕ → List Entry → List Entry
without key [] = []
without key (e ∷ es) = cond (same_key e.key key) es (e ∷ without key es)

abbrev pub clear_place : Entry
clear_place = record { key = []; unused = replicate 64 0; estimate = 0 }

unfoldable pub taken_off : List ℕ → Watch → Watch
taken_off key watch =
    cond (listed key watch.entries) (record { mark = watch.mark; entries = without key watch.entries; free = clear_place ∷ watch.free }) watch
