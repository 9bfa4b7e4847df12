-- Laws of the loops that check: over groups and 32 slots.
use mathlib.Core.Path.{◌≡◌}
use mathlib.Core.List.{List}
use Prim.Native.Nat.{ℕ, suc, ◌+◌, ◌-◌, ◌≤◌, ◌<◌}
use native.Mathlib.Numerals.{add-one}
use native.Mathlib.Omega.{arith}
use lib.ListN.{length, get_or, drop, drop_of_length-le}
use lib.Seq.{drop-cons}
use Rattle.word.specs.Word.{next}
use Rattle.image_format.specs.Read.{check_slots, check_groups, check_four, check_fours}

-- groups
pub check_groups_step : (ms words : List ℕ) (p i : ℕ) → i < length ms
    → check_groups (drop i ms) words p ≡ next (check_slots 8 0 (get_or ms i 0) words p) (λ q. check_groups (drop (i + 1) ms) words q)
unfolding check_groups
check_groups_step ms words p i h = rw (drop-cons ms i 0, add-one)

pub check_groups_none : (ms words : List ℕ) (p i : ℕ) → length ms ≤ i → check_groups (drop i ms) words p ≡ record { status = 0; position = p }
unfolding check_groups
check_groups_none ms words p i h = rw (drop_of_length-le ms h)

-- 32 slots
pub check_fours_step : (n i : ℕ) (words : List ℕ) (p : ℕ) → i < n → check_fours (n - i) words p ≡ next (check_four words p) (λ q. check_fours (n - (i + 1)) words q)
unfolding check_fours
check_fours_step n i words p h =
    let e : n - i ≡ suc (n - (i + 1)) = omega arith in
    rw e

pub check_fours_none : (n : ℕ) (words : List ℕ) (p : ℕ) → n ≡ 0 → check_fours n words p ≡ record { status = 0; position = p }
unfolding check_fours
check_fours_none n words p e = rw e
