-- What is claimed of every list of a signed meter's calls. Document 02, request 3. Cited by theorems.
use Rattle.std.specs.Prelude.{ℕ, zero, suc, ◌/◌, ◌%◌, ◌^◌, ◌≤◌, ◌<◌, ◌≡◌, Bool, true, false, List, [], ◌∷◌, length, ℤ, pos}
use Rattle.hash.specs.Hash.{basis}
use Rattle.geometry.specs.Geometry.{valid_depth, valid_width}
use Rattle.meter_keys.specs.Keys.{key_slot, key_sign}
use Rattle.meter_memory.specs.Rows.{row_of, group_at}
use Rattle.signed_number.specs.Number.{times_sign, integer_of, signed_of}
use Rattle.signed_group.specs.Results.{Reading}
use Rattle.signed_group.specs.Group.{read}
use Rattle.signed_median.specs.Median.{median}
use Rattle.signed.specs.Signed.{estimated, signed_answer}
use Rattle.signed_claim.specs.Traffic.{block_total}
use Rattle.signed_claim.specs.Calls.{Call, clear, combine, from, Calls, then, traffic, run, Faithful}

-- the counter of slot s of row r after a list
abbrev pub counter_after : ℕ → ℕ → Calls → ℕ → ℕ → Reading
counter_after d w calls r s = read (group_at w (row_of w (run d w calls) r) (s / 8)) s

-- the total of all traffic in that counter's block
abbrev pub total_after : ℕ → ℕ → Calls → ℕ → ℕ → ℤ
total_after d w calls r s = let n = (counter_after d w calls r s).level in block_total w r (traffic calls) n (s / 2 ^ n)

-- f 0 to f (n - 1), from f k on
unfoldable pub up_to : (ℕ → ℤ) → ℕ → ℕ → List ℤ
up_to f k zero = []
up_to f k (suc n) = f k ∷ up_to f (suc k) n

-- a later list: the same calls and others after them, of which none is an accepted clearing
pub data Later (calls : Calls) : Calls → Type 0 where
  now : Later calls calls
  next : {more : Calls} → Later calls more → (d w : ℕ) (call : Call) (ok : Bool) → (call ≡ clear → ok ≡ false) → Later calls (then more d w call ok)

-- what holds after a list of calls on a signed meter of d rows of w slots
pub record Claim (d w : ℕ) (calls : Calls) : Type 0 where
  -- no group is refused, so that none holds minus zero; each counter holds the total of its block's accepted amounts, each times its row's
  -- sign for the key, those of a source added or taken away
  pub counters : (r s : ℕ) → r < d → s < w
      → ((counter_after d w calls r s).status ≡ 0) × (integer_of (counter_after d w calls r s).value ≡ total_after d w calls r s)
  -- told the meter's d and w, the estimate call accepts every key, and gives the median of the rows' totals times signs
  pub estimates : (key : List ℕ) → 1 ≤ length key → length key ≤ 64
      → estimated d w (run d w calls) key
      ≡ signed_answer 0 (median (up_to (λ r. times_sign (key_sign basis key r) (total_after d w calls r (key_slot basis w key r))) 0 d))
  -- between clearings every merged block stays merged: the level of each slot's counter only grows
  pub stays : (more : Calls) → Later calls more → Faithful d w more
      → (r s : ℕ) → r < d → s < w → (counter_after d w calls r s).level ≤ (counter_after d w more r s).level
  -- a copy of the meter can be taken away from it; then every counter is 0, and the layout stays
  pub taken_away : Faithful d w (then calls d w (combine true (from calls)) true)
      × ((r s : ℕ) → r < d → s < w
      → counter_after d w (then calls d w (combine true (from calls)) true) r s
      ≡ record { status = 0; value = signed_of (pos 0); level = (counter_after d w calls r s).level })

-- The claim, of every odd depth, every width and every faithful list.
abbrev pub SignedClaim : Type 0
SignedClaim =
    (d w : ℕ) → valid_depth d ≡ true → d % 2 ≡ 1 → valid_width w ≡ true → (calls : Calls) → Faithful d w calls → Claim d w calls
