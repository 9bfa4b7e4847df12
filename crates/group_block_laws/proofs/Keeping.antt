-- What an addition leaves as it was: counters that its slot is not in. For any level.
use mathlib.Core.Path.{◌≡◌, refl}
use mathlib.Core.Bool.{Bool, true, false, cond, true≢false}
use Prim.Native.Nat.{ℕ, suc, ◌+◌, ◌-◌, ◌^◌}
use lib.Dec.{ltb}
use Rattle.group_layout.specs.Layout.{Layout, merged, halves}
use Rattle.group_block.specs.Block.{Block, counter, split, shape, counter_at, total}
use Rattle.group_block.specs.Sum.{Sum, fits, over, held, join, add, sum_total}
use Rattle.group_block.proofs.Adding.{held_cases, add_halves}
use Rattle.group_block_laws.specs.Least.{together}

-- What a Sum keeps of a block: each slot that is not touched reads as before. What is touched goes by the layout that is left.
abbrev Touch : ℕ → Type 0
Touch n = Layout n → ℕ → Bool

Keeps : {n : ℕ} → Block n → Touch n → Sum n → Type 0
Keeps b t (fits b') = (j : ℕ) → t (shape b') j ≡ false → counter_at b' j ≡ counter_at b j
Keeps b t (over s) = Unit

-- what is touched in two halves; all of a block that was formed
halfwise : {n : ℕ} → Touch n → Touch n → Touch (suc n)
halfwise t u merged j = true
halfwise {n} t u (halves l r) j = cond (ltb j (2 ^ n)) (t l j) (u r (j - 2 ^ n))

held_keeps : {n : ℕ} (b : Block (suc n)) (t u : Touch n) (s : ℕ) → Keeps b (halfwise t u) (held (suc n) s)
unfolding Keeps halfwise shape
held_keeps {n} b t u s = held_cases (suc n) s (Keeps b (halfwise t u)) (λ h j e. absurd (true≢false e)) (λ h. tt)

join_keeps : {n : ℕ} (l r : Block n) (t u : Touch n) (x y : Sum n) → Keeps l t x → Keeps r u y → Keeps (split l r) (halfwise t u) (join x y)
unfolding Keeps halfwise join shape counter_at
join_keeps {n} l r t u (fits l') (fits r') f g = λ j. go j (ltb j (2 ^ n))
  where
    go : (j : ℕ) (b : Bool) → cond b (t (shape l') j) (u (shape r') (j - 2 ^ n)) ≡ false
        → cond b (counter_at l' j) (counter_at r' (j - 2 ^ n)) ≡ cond b (counter_at l j) (counter_at r (j - 2 ^ n))
    go j true e = f j e
    go j false e = g (j - 2 ^ n) e
join_keeps l r t u (fits l') (over s) f g = held_keeps (split l r) t u (total l' + s)
join_keeps l r t u (over s) y f g = held_keeps (split l r) t u (s + sum_total y)

-- fewer slots are kept where more are touched
keeps_fewer : {n : ℕ} (b : Block n) (t u : Touch n) (x : Sum n) → ((L : Layout n) (j : ℕ) → u L j ≡ false → t L j ≡ false) → Keeps b t x → Keeps b u x
unfolding Keeps
keeps_fewer b t u (fits b') h f = λ j e. f j (h (shape b') j e)
keeps_fewer b t u (over s) h f = tt

abbrev with_slot : {n : ℕ} → ℕ → Touch n
with_slot k L j = together L k j

abbrev none : {n : ℕ} → Touch n
none L j = false

left_touch : {n : ℕ} (k : ℕ) → ltb k (2 ^ n) ≡ true → (L : Layout (suc n)) (j : ℕ) → together L k j ≡ false → halfwise {n = n} (with_slot k) none L j ≡ false
unfolding halfwise together
left_touch k h merged j e = e
left_touch k h (halves l r) j e = rw h at e

right_touch : {n : ℕ} (k : ℕ) → ltb k (2 ^ n) ≡ false → (L : Layout (suc n)) (j : ℕ) → together L k j ≡ false → halfwise {n = n} none (with_slot (k - 2 ^ n)) L j ≡ false
unfolding halfwise together
right_touch k h merged j e = e
right_touch k h (halves l r) j e = rw h at e

add_keeps_others : {n : ℕ} (b : Block n) (k a : ℕ) → Keeps b (with_slot k) (add b k a)
unfolding add Keeps together shape
add_keeps_others {n} (counter v) k a = held_cases n (v + a) (Keeps (counter v) (with_slot k)) (λ h j e. absurd (true≢false e)) (λ h. tt)
add_keeps_others (split {n} l r) k a =
    add_halves l r k a (Keeps (split l r) (with_slot k))
    (λ e.
    keeps_fewer (split l r) (halfwise (with_slot k) none) (with_slot k) (join (add l k a) (fits r)) (left_touch k e)
    (join_keeps l r (with_slot k) none (add l k a) (fits r) (add_keeps_others l k a) (λ j e. refl)))
    (λ e.
    keeps_fewer (split l r) (halfwise none (with_slot (k - 2 ^ n))) (with_slot k) (join (fits l) (add r (k - 2 ^ n) a)) (right_touch k e)
    (join_keeps l r none (with_slot (k - 2 ^ n)) (fits l) (add r (k - 2 ^ n) a) (λ j e. refl) (add_keeps_others r (k - 2 ^ n) a)))

-- an addition leaves every counter but the one that its slot is in then as it was
pub add_other : {n : ℕ} (b b' : Block n) (k j a : ℕ) → add b k a ≡ fits b' → together (shape b') k j ≡ false → counter_at b' j ≡ counter_at b j
unfolding Keeps
add_other b b' k j a e = (rw e at (add_keeps_others b k a)) j
