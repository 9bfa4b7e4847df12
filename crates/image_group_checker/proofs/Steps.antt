-- The code's steps from the first slot of a counter to the next.
use mathlib.Core.Path.{◌≡◌, ap, ◌∙◌}
use mathlib.Core.Bool.{true, cond}
use mathlib.Core.List.{List}
use Prim.Native.Nat.{ℕ, ◌+◌, ◌-◌, ◌^◌, ◌≤◌, ◌<◌}
use native.Mathlib.Omega.{arith}
use lib.Dec.{eqb}
use Rattle.word.specs.Step.{Step}
use Rattle.word.specs.Word.{next}
use Rattle.image_format.specs.Image.{level_at, is_first}
use Rattle.image_format.specs.Read.{check_slot, check_slots}
use Rattle.image_format.proofs.Sizes.{first_zero}
use Rattle.image_format.proofs.Counters.{counter_end, next_first, behind}
use Rattle.image_group_checker.proofs.Laws.{check_slot_other, check_slots_step}

-- checks, from the first slot of a counter to the next
pub checks_turn : (k m : ℕ) (words : List ℕ) (p : ℕ) → k < 8 → is_first m k ≡ true
    → check_slots (8 - k) k m words p ≡ next (check_slot m k words p) (λ q. check_slots (8 - (k + 2 ^ level_at m k)) (k + 2 ^ level_at m k) m words q)
unfolding check_slots next
checks_turn k m words p h t =
    let s = check_slot m k words p in
    check_slots_step 8 k m words p h
    ∙ ap (λ (x : Step). cond (eqb s.status 0) x s)
    (behind (λ n i. check_slots n i m words s.position) m (λ n i f. rw (check_slot_other m i words s.position f)) k h t)

-- a slot where the walk stands: the first of a counter, or the end of the group
abbrev pub Stands : ℕ → ℕ → Type 0
Stands m k = (k ≤ 8) × (k < 8 → is_first m k ≡ true)

pub stands_first : (m : ℕ) → Stands m 0
stands_first m = (omega arith, λ h. first_zero m)

pub stands_next : (m k : ℕ) → k < 8 → is_first m k ≡ true → Stands m (k + 2 ^ level_at m k)
stands_next m k h t = (counter_end m k h t, next_first m k h t)
