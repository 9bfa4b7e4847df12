-- The counters of a group in slot order: from the first slot of one counter on, its other slots start none, and the next counter starts
-- behind them.
use mathlib.Core.Path.{◌≡◌, sym, ap, ◌∙◌}
use mathlib.Core.Bool.{true, false}
use Prim.Native.Nat.{ℕ, zero, suc, ◌+◌, ◌-◌, ◌%◌, ◌^◌, ◌≤◌, ◌<◌}
use native.Mathlib.Nat.{add-zero, zero-add}
use native.Mathlib.Omega.{arith}
use borrow.Author.Tests.{eqb-true, eqb-false, eq-eqb, ne_eqb}
use lib.Pow.{pow_pos}
use Rattle.group.specs.declared.Group.{Group}
use Rattle.group.specs.Group.{read}
use Rattle.group_fields.proofs.Readings as readings
use Rattle.image_format.specs.Image.{level_at, is_first}
use Rattle.image_format.specs.Write.{slot_size, slots_size}
use Rattle.image_format.proofs.Laws.{size_other, sizes_step}
use Rattle.image_format.proofs.Sizes.{empty, read_level}

-- whether a slot is the first of its counter, by what is read
first_at : (m k : ℕ) → is_first m k ≡ true → k % 2 ^ (read (empty m) k).level ≡ 0
unfolding is_first level_at
first_at m k t = eqb-true (k % 2 ^ level_at m k) 0 t

pub first_is : (g : Group) (k : ℕ) → is_first g.merge k ≡ true → k % 2 ^ (read g k).level ≡ 0
unfolding is_first
first_is g k t = rw (read_level g k) (eqb-true (k % 2 ^ level_at g.merge k) 0 t)

pub other_is : (g : Group) (k : ℕ) → is_first g.merge k ≡ false → k % 2 ^ (read g k).level ≡ 0 → ⊥
unfolding is_first
other_is g k t = rw (read_level g k) (eqb-false (k % 2 ^ level_at g.merge k) 0 t)

-- a counter's slots lie in the group
pub counter_end : (m k : ℕ) → k < 8 → is_first m k ≡ true → k + 2 ^ level_at m k ≤ 8
unfolding level_at
counter_end m k h t = readings.counter_end (empty m) k h (first_at m k t)

-- the slots of a counter after its first start none
inside : (m k j : ℕ) → k < 8 → is_first m k ≡ true → 0 < j → j < 2 ^ level_at m k → is_first m (k + j) ≡ false
unfolding is_first level_at
inside m k j h t p i = ne_eqb _ 0 (readings.inside (empty m) k j h (first_at m k t) p i)

-- the slot behind a counter starts one
pub next_first : (m k : ℕ) → k < 8 → is_first m k ≡ true → k + 2 ^ level_at m k < 8 → is_first m (k + 2 ^ level_at m k) ≡ true
unfolding is_first level_at
next_first m k h t i = eq-eqb _ 0 (readings.next_first (empty m) k h (first_at m k t) i)

-- A walk over the slots that a slot which starts no counter leaves as it was: `walk n k` goes over n slots from slot k on.
module _ {X : Type 0} (walk : ℕ → ℕ → X) (m : ℕ) (over : (n k : ℕ) → is_first m k ≡ false → walk (suc n) k ≡ walk n (k + 1)) where
  skip : (j n k : ℕ) → ((i : ℕ) → i < j → is_first m (k + i) ≡ false) → walk (j + n) k ≡ walk n (k + j)
  skip zero n k h =
      let e : k + 0 ≡ k = omega arith in
      let z : 0 + n ≡ n = omega arith in
      rw (e, z)
  skip (suc j) n k h =
      let first : is_first m k ≡ false = rw (add-zero k) at (h 0 (omega arith)) in
      let e : k + 1 + j ≡ k + suc j = omega arith in
      let z : suc j + n ≡ suc (j + n) = omega arith in
      ap (λ (i : ℕ). walk i k) z
      ∙ over (j + n) k first
      ∙ skip j n (k + 1) (λ i l. let f : k + 1 + i ≡ k + suc i = omega arith in rw f (h (suc i) (omega arith)))
      ∙ ap (walk n) e

  -- past the first slot of a counter it goes on behind the counter
  pub behind : (k : ℕ) → k < 8 → is_first m k ≡ true → walk (8 - (k + 1)) (k + 1) ≡ walk (8 - (k + 2 ^ level_at m k)) (k + 2 ^ level_at m k)
  behind k h t =
      let L = level_at m k in
      let n : 8 - (k + 1) ≡ 2 ^ L - 1 + (8 - (k + 2 ^ L)) = omega (arith, counter_end m k h t, pow_pos L) in
      let e : k + 1 + (2 ^ L - 1) ≡ k + 2 ^ L = omega (arith, pow_pos L) in
      ap (λ (i : ℕ). walk i (k + 1)) n
      ∙ skip (2 ^ L - 1) (8 - (k + 2 ^ L)) (k + 1) (λ i l. let f : k + 1 + i ≡ k + (1 + i) = omega arith in rw f (inside m k (1 + i) h t (omega arith) (omega arith)))
      ∙ ap (walk (8 - (k + 2 ^ L))) e

-- the sizes, from the first slot of a counter to the next
pub sizes_turn : (k m : ℕ) → k < 8 → is_first m k ≡ true
    → slots_size (8 - k) k m ≡ slot_size m k + slots_size (8 - (k + 2 ^ level_at m k)) (k + 2 ^ level_at m k) m
unfolding slots_size
sizes_turn k m h t = sizes_step 8 k m h ∙ ap (λ (n : ℕ). slot_size m k + n) (behind (λ n i. slots_size n i m) m (λ n i f. ap (λ (s : ℕ). s + slots_size n (i + 1) m) (sym (size_other m i f)) ∙ zero-add (slots_size n (i + 1) m)) k h t)
