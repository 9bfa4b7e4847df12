-- What is claimed of every list of updates through a watch list and takings off. Document 02, request 1. Cited by theorems.
use Rattle.std.specs.Prelude.{ℕ, ◌-◌, ◌≤◌, ◌≡◌, Bool, true, false, cond, not, ◌&&◌, ◌||◌, List, [], ◌∷◌, ◌++◌, map, leb, eqb, length, replicate}
use Rattle.geometry.specs.Geometry.{valid_depth, valid_width}
use Rattle.meter.specs.Meter.{estimated}
use Rattle.meter_keys.specs.Keys.{same_key}
use Rattle.watch_list.specs.List.{Entry, Watch, listed, joining, clear_place}
use Rattle.watch_list.specs.Layout.{list_size, sound, encode}
use Rattle.watch_claim.specs.Steps.{Step, update, remove, key_of, after, mark_after, entries_after, listed_after, accepted, Told, total}

-- Whether a key was taken off since its last accepted update. A taking off counts if it was accepted and the key was listed; one that
-- does not find the key takes nothing off. This is the reading by which the claim says most.
unfoldable pub taken_off_since : ℕ → ℕ → List ℕ → List Step → Bool
taken_off_since d w key [] = false
taken_off_since d w key (update d' w' k amount threshold ∷ steps) =
    cond (accepted d w steps (update d' w' k amount threshold) && same_key k key) false (taken_off_since d w key steps)
taken_off_since d w key (remove k ∷ steps) = accepted d w steps (remove k) && (same_key k key && listed_after d w steps key) || taken_off_since d w key steps

-- the estimate of a listed key
unfoldable pub estimate_in : List ℕ → List Entry → ℕ
estimate_in key [] = 0
estimate_in key (e ∷ es) = cond (same_key e.key key) e.estimate (estimate_in key es)

-- the meter's estimate of a key just after its last accepted update
unfoldable pub last_estimate : ℕ → ℕ → List ℕ → List Step → ℕ
last_estimate d w key [] = 0
last_estimate d w key (update d' w' k amount threshold ∷ steps) =
    cond (accepted d w steps (update d' w' k amount threshold) && same_key k key)
    (estimated d w (after d w (update d' w' k amount threshold ∷ steps)).memory key).value (last_estimate d w key steps)
last_estimate d w key (remove k ∷ steps) = last_estimate d w key steps

-- no key is there twice
unfoldable pub Once : List Entry → Type 0
Once [] = Unit
Once (e ∷ es) = (listed e.key es ≡ false) × Once es

-- The keys in the order they joined, by what is listed before and after each step alone: a key that is listed after a step and was not
-- before comes last, and one that is not listed after it is struck out.
unfoldable pub filter : (List ℕ → Bool) → List (List ℕ) → List (List ℕ)
filter test [] = []
filter test (key ∷ keys) = cond (test key) (key ∷ filter test keys) (filter test keys)

unfoldable pub joins : ℕ → ℕ → List Step → Step → Bool
joins d w steps step = listed_after d w (step ∷ steps) (key_of step) && not (listed_after d w steps (key_of step))

unfoldable pub join_order : ℕ → ℕ → List Step → List (List ℕ)
join_order d w [] = []
join_order d w (step ∷ steps) = filter (listed_after d w (step ∷ steps)) (join_order d w steps) ++ cond (joins d w steps step) (key_of step ∷ []) []

-- Whether a step finds the list full: an accepted update of a key that is not listed, which leaves an estimate at or above the threshold
-- while 64 are listed.
unfoldable pub finds_full : ℕ → ℕ → ℕ → List Step → Step → Bool
finds_full d w threshold steps (update d' w' key amount threshold') =
    accepted d w steps (update d' w' key amount threshold')
    && (not (listed_after d w steps key)
    && (leb threshold (estimated d w (after d w (update d' w' key amount threshold' ∷ steps)).memory key).value
    && eqb (length (entries_after d w steps)) 64))
finds_full d w threshold steps (remove key) = false

-- the mark is off until a step finds the list full, and on from then
unfoldable pub found_full : ℕ → ℕ → ℕ → List Step → ℕ
found_full d w threshold [] = 0
found_full d w threshold (step ∷ steps) = cond (finds_full d w threshold steps step) 1 (found_full d w threshold steps)

-- the keys and estimates of entries, and the list of a mark, keys and estimates whose unused bytes are all 0
unfoldable pub contents : List Entry → List (List ℕ × ℕ)
contents entries = map (λ e. (e.key, e.estimate)) entries

unfoldable pub canonical : ℕ → List (List ℕ × ℕ) → Watch
canonical mark pairs = record { mark = mark; entries = map (λ p. joining p.0 p.1) pairs; free = replicate (64 - length pairs) clear_place }

-- what holds after a list of steps
pub record Claim (d w threshold : ℕ) (steps : List Step) : Type 0 where
  -- while the mark is off, a key whose accepted total reached the threshold is listed, unless taken off since its last accepted update
  pub heavy : mark_after d w steps ≡ 0 → (key : List ℕ) → threshold ≤ total d w steps key → taken_off_since d w key steps ≡ false
      → listed_after d w steps key ≡ true
  -- a listed key's estimate is at least its accepted total, and is the meter's just after the key's last accepted update
  pub estimates : (key : List ℕ) → listed_after d w steps key ≡ true → total d w steps key ≤ estimate_in key (entries_after d w steps)
  pub latest : (key : List ℕ) → listed_after d w steps key ≡ true → estimate_in key (entries_after d w steps) ≡ last_estimate d w key steps
  pub once : Once (entries_after d w steps)
  -- entries are in the order they joined
  pub order : map (λ (e : Entry). e.key) (entries_after d w steps) ≡ join_order d w steps
  -- unused bytes are 0
  pub bytes : (after d w steps).list ≡ encode (canonical (mark_after d w steps) (contents (entries_after d w steps)))
  pub mark : mark_after d w steps ≡ found_full d w threshold steps
  -- the list is not broken: no call is refused for it
  pub unbroken : (length (after d w steps).list ≡ list_size) × (sound (after d w steps).list ≡ true)

-- The claim, of every depth and width, every threshold but 0, which is refused, and every such list.
abbrev pub WatchClaim : Type 0
WatchClaim =
    (d w threshold : ℕ) → valid_depth d ≡ true → valid_width w ≡ true → 1 ≤ threshold
    → (steps : List Step) → Told d w threshold steps
    → Claim d w threshold steps

-- What follows: lists with the same mark, keys and estimates are the same bytes, whatever steps left them.
abbrev pub EqualBytes : Type 0
EqualBytes =
    (d w threshold d' w' threshold' : ℕ) (steps others : List Step) → Claim d w threshold steps → Claim d' w' threshold' others
    → mark_after d w steps ≡ mark_after d' w' others
    → contents (entries_after d w steps) ≡ contents (entries_after d' w' others)
    → (after d w steps).list ≡ (after d' w' others).list
