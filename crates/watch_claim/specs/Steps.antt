-- Lists of updates through a watch list and of takings off, and what they leave. Document 02, request 1. Cited by theorems.
use Rattle.std.specs.Prelude.{ℕ, ◌≡◌, Bool, true, List, [], ◌∷◌, eqb, replicate}
use Rattle.geometry.specs.Geometry.{size}
use Rattle.watch_list.specs.List.{Entry, listed}
use Rattle.watch_list.specs.Layout.{list_size, decode}
use Rattle.watch.specs.Watch.{watched, removed}
use Rattle.traffic.specs.Traffic.{key_total}
use Rattle.traffic.specs.Calls.{Calls, none, then, watch, traffic}

-- An update through the list, told a depth, a width and a threshold, and a taking off.
pub data Step : Type 0 where
  update : (d w : ℕ) (key : List ℕ) (amount threshold : ℕ) → Step
  remove : (key : List ℕ) → Step

-- the key of a step
unfoldable pub key_of : Step → List ℕ
key_of (update d w key amount threshold) = key
key_of (remove key) = key

-- a meter's memory and the list beside it
pub record State : Type 0 where
  pub memory : List ℕ
  pub list : List ℕ

-- the status (number) that a step gives and what it leaves, by the definitions that the contracts of the calls cite
unfoldable pub status : Step → State → ℕ
status (update d w key amount threshold) s = (watched d w s.memory s.list key amount threshold).answer.status
status (remove key) s = (removed s.list key).answer.status

unfoldable pub stepped : Step → State → State
stepped (update d w key amount threshold) s =
    record {
      memory = (watched d w s.memory s.list key amount threshold).memory;
      list = (watched d w s.memory s.list key amount threshold).list;
    }
stepped (remove key) s = record { memory = s.memory; list = (removed s.list key).memory }

-- What a list of steps leaves, the last step first: a meter of d rows of w slots and a list start cleared together, and each step gets
-- the memory and the list that the last one left.
unfoldable pub after : ℕ → ℕ → List Step → State
after d w [] = record { memory = replicate (size d w) 0; list = replicate list_size 0 }
after d w (step ∷ steps) = stepped step (after d w steps)

-- the mark and the entries after steps, and whether a key is listed then
abbrev pub mark_after : ℕ → ℕ → List Step → ℕ
mark_after d w steps = (decode (after d w steps).list).mark

abbrev pub entries_after : ℕ → ℕ → List Step → List Entry
entries_after d w steps = (decode (after d w steps).list).entries

abbrev pub listed_after : ℕ → ℕ → List Step → List ℕ → Bool
listed_after d w steps key = listed key (entries_after d w steps)

-- whether a step that comes after others is accepted
unfoldable pub accepted : ℕ → ℕ → List Step → Step → Bool
accepted d w steps step = eqb (status step (after d w steps)) 0

-- The premise: each accepted update was told the meter's depth and width, and one threshold. A refused one may have been told anything.
unfoldable pub ToldThese : ℕ → ℕ → ℕ → Step → Type 0
ToldThese d w threshold (update d' w' key amount threshold') = (d' ≡ d) × (w' ≡ w) × (threshold' ≡ threshold)
ToldThese d w threshold (remove key) = Unit

unfoldable pub Told : ℕ → ℕ → ℕ → List Step → Type 0
Told d w threshold [] = Unit
Told d w threshold (step ∷ steps) = Told d w threshold steps × (accepted d w steps step ≡ true → ToldThese d w threshold step)

-- The meter's calls: each update, with the content of the list that it met. A taking off is no call of the meter.
unfoldable pub calls : ℕ → ℕ → List Step → Calls
calls d w [] = none
calls d w (update d' w' key amount threshold ∷ steps) =
    then (calls d w steps) d' w' (watch (after d w steps).list key amount threshold) (accepted d w steps (update d' w' key amount threshold))
calls d w (remove key ∷ steps) = calls d w steps

-- a key's accepted total: its total in the traffic of these calls
unfoldable pub total : ℕ → ℕ → List Step → List ℕ → ℕ
total d w steps key = key_total key (traffic (calls d w steps))
