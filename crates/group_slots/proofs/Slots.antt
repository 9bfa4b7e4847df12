-- Counters of a block by slots: a counter starts at a multiple of its size, and another value in it changes no slot before it.
use mathlib.Core.Path.{◌≡◌, refl, sym, ap, ap₂, ◌∙◌}
use mathlib.Core.Bool.{Bool, true, false, cond, true≢false}
use Prim.Native.Nat.{ℕ, suc, ◌+◌, ◌-◌, ◌*◌, ◌%◌, ◌^◌, ◌≤◌, ◌<◌}
use native.Mathlib.Nat.{mod-eq_of_lt, zero-mod, mul-add-mod_self_right, add-sub_cancel_left, add-sub_of_le}
use native.Mathlib.Decide.{dec_lt}
use native.Mathlib.Omega.{arith}
use borrow.Author.Tests.{lt-ltb, le-ltb}
use lib.Dec.{ltb}
use lib.Pow.{pow-add, pow_pos}
use Rattle.group_layout.specs.Layout.{Layout, merged, halves, layout}
use Rattle.group_layout.specs.Merged.{is_merged}
unfoldable pub use Rattle.group_layout.specs.Layout.{level_of}
use Rattle.group_block.specs.declared.Counter.{Counter}
use Rattle.group_block.specs.Kind.{Kind}
use Rattle.group_block.specs.Block.{BlockOf, Block, counter, split, cap, Fits, shape, block, counter_at, total, block_as}
use Rattle.group_block.specs.Change.{change}
use Rattle.group_block.proofs.Laws.{shape_fill}
use Rattle.group_block.proofs.Sums.{Sums}
use Rattle.group_block.proofs.Adding.{total_size, total_lt}

pub counter_halves : {n : ℕ} (l r : Block n) (k : ℕ) (P : Counter → Type 0)
    → (ltb k (2 ^ n) ≡ true → P (counter_at l k))
    → (ltb k (2 ^ n) ≡ false → P (counter_at r (k - 2 ^ n)))
    → P (counter_at (split l r) k)
unfolding counter_at
counter_halves {n} l r k P f g = go (ltb k (2 ^ n)) refl
  where
    go : (b : Bool) → ltb k (2 ^ n) ≡ b → P (cond (ltb k (2 ^ n)) (counter_at l k) (counter_at r (k - 2 ^ n)))
    go true e = rw e (f e)
    go false e = rw e (g e)

pub level_le : {n : ℕ} (b : Block n) (k : ℕ) → (counter_at b k).level ≤ n
unfolding counter_at
level_le {n} (counter v) k = omega arith
level_le (split {n} l r) k =
    counter_halves l r k (λ c. c.level ≤ suc n) (λ e. omega (arith, level_le l k)) (λ e. omega (arith, level_le r (k - 2 ^ n)))

-- the level of the counter of a slot, by the layout
pub level_is : {n : ℕ} (b : Block n) (k : ℕ) → (counter_at b k).level ≡ level_of (shape b) k
unfolding counter_at level_of shape
level_is (counter v) k = refl
level_is (split {n} l r) k = go (ltb k (2 ^ n)) (level_is l k) (level_is r (k - 2 ^ n))
  where
    go : (t : Bool) → (counter_at l k).level ≡ level_of (shape l) k → (counter_at r (k - 2 ^ n)).level ≡ level_of (shape r) (k - 2 ^ n)
        → (cond t (counter_at l k) (counter_at r (k - 2 ^ n))).level ≡ cond t (level_of (shape l) k) (level_of (shape r) (k - 2 ^ n))
    go true e f = e
    go false e f = f

pub level_block : (n w m k : ℕ) → (counter_at (block n w m) k).level ≡ level_of (layout n m) k
unfolding block_as
level_block n w m k = level_is (block n w m) k ∙ ap (λ (L : Layout n). level_of L k) (shape_fill (layout n m) w)

pub value_lt : {n : ℕ} (b : Block n) (k : ℕ) → Fits b → (counter_at b k).value < cap (counter_at b k).level
unfolding counter_at Fits
value_lt (counter v) k f = f
value_lt (split {n} l r) k f =
    counter_halves l r k (λ c. c.value < cap c.level) (λ e. value_lt l k f.0) (λ e. value_lt r (k - 2 ^ n) f.1)

-- the counter of a slot in each half
module _ {n : ℕ} (l r : Block n) where
  pub in_left : (k : ℕ) → k < 2 ^ n → counter_at (split l r) k ≡ counter_at l k
  unfolding counter_at
  in_left k h = rw (lt-ltb k (2 ^ n) h)

  pub in_right : (k : ℕ) → 2 ^ n ≤ k → counter_at (split l r) k ≡ counter_at r (k - 2 ^ n)
  unfolding counter_at
  in_right k h = rw (le-ltb k (2 ^ n) h)

  pub from_right : (k : ℕ) → counter_at (split l r) (2 ^ n + k) ≡ counter_at r k
  from_right k = in_right (2 ^ n + k) (omega arith) ∙ ap (counter_at r) (add-sub_cancel_left (2 ^ n) k)

  pub change_left : (k x : ℕ) → k < 2 ^ n → change (split l r) k x ≡ split (change l k x) r
  unfolding change
  change_left k x h = rw (lt-ltb k (2 ^ n) h)

  pub change_right : (k x : ℕ) → 2 ^ n ≤ k → change (split l r) k x ≡ split l (change r (k - 2 ^ n) x)
  unfolding change
  change_right k x h = rw (le-ltb k (2 ^ n) h)

-- another value is read back from its slot
pub change_at : {n : ℕ} (b : Block n) (k x : ℕ) → counter_at (change b k x) k ≡ record { value = x % cap (counter_at b k).level; level = (counter_at b k).level }
unfolding change counter_at
change_at (counter v) k x = refl
change_at (split {n} l r) k x = elim (dec_lt k (2 ^ n)) [
  | yes h ↦ rw (change_left l r k x h, in_left (change l k x) r k h, in_left l r k h) (change_at l k x)
  | no h ↦ let m : 2 ^ n ≤ k = omega arith in rw (change_right l r k x m, in_right l (change r (k - 2 ^ n) x) k m, in_right l r k m) (change_at r (k - 2 ^ n) x)
]

-- a multiple of a counter's size is one in the right half too
pub shifted : (n level k : ℕ) → level ≤ n → 2 ^ n ≤ k → k % 2 ^ level ≡ (k - 2 ^ n) % 2 ^ level
shifted n level k h m =
    let e : 2 ^ n ≡ 2 ^ (n - level) * 2 ^ level = ap (λ (i : ℕ). 2 ^ i) (omega arith) ∙ pow-add 2 (n - level) level in
    ap (λ (i : ℕ). i % 2 ^ level) (sym (add-sub_of_le m))
    ∙ rw e (mul-add-mod_self_right (2 ^ (n - level)) (2 ^ level) (k - 2 ^ (n - level) * 2 ^ level))

-- another value in the counter that starts at slot k changes no slot before it
pub change_before : {n : ℕ} (b : Block n) (k j x : ℕ) → j < k → k < 2 ^ n → k % 2 ^ (counter_at b k).level ≡ 0 → counter_at (change b k x) j ≡ counter_at b j
unfolding counter_at
change_before {n} (counter v) k j x h i z = absurd (omega (arith, mod-eq_of_lt {n = k} {m = 2 ^ n} i))
change_before (split {n} l r) k j x h i z = elim (dec_lt k (2 ^ n)) [
  | yes m ↦ rw (change_left l r k x m, in_left (change l k x) r j (omega arith), in_left l r j (omega arith)) (change_before l k j x h m (rw (in_left l r k m) at z))
  | no m' ↦
      let m : 2 ^ n ≤ k = omega arith in
      elim (dec_lt j (2 ^ n)) [
        | yes q ↦ rw (change_right l r k x m, in_left l (change r (k - 2 ^ n) x) j q, in_left l r j q)
        | no q' ↦
            let q : 2 ^ n ≤ j = omega arith in
            let y : (k - 2 ^ n) % 2 ^ (counter_at r (k - 2 ^ n)).level ≡ 0 = sym (shifted n (counter_at r (k - 2 ^ n)).level k (level_le r (k - 2 ^ n)) m) ∙ (rw (in_right l r k m) at z) in
            rw (change_right l r k x m, in_right l (change r (k - 2 ^ n) x) j q, in_right l r j q) (change_before r (k - 2 ^ n) (j - 2 ^ n) x (omega arith) (omega arith) y)
      ]
]

-- a slot that is not its counter's first is in the counter of the slot before it
pub same_before : {n : ℕ} (b : Block n) (k : ℕ) → k < 2 ^ n → (k % 2 ^ (counter_at b k).level ≡ 0 → ⊥) → (0 < k) × (counter_at b k ≡ counter_at b (k - 1))
unfolding counter_at
same_before {n} (counter v) k h f = elim (dec_lt 0 k) [
  | yes p ↦ (p, refl)
  | no p ↦ let z : k ≡ 0 = omega arith in absurd (f (rw z (zero-mod (2 ^ n))))
]
same_before (split {n} l r) k h f = elim (dec_lt k (2 ^ n)) [
  | yes m ↦
      let s = same_before l k m (rw (in_left l r k m) at f) in
      (s.0, rw (in_left l r k m, in_left l r (k - 1) (omega arith)) s.1)
  | no m' ↦
      let m : 2 ^ n ≤ k = omega arith in
      let s = same_before r (k - 2 ^ n) (omega arith) (λ z. (rw (in_right l r k m) at f) (shifted n (counter_at r (k - 2 ^ n)).level k (level_le r (k - 2 ^ n)) m ∙ z)) in
      let e : k - 1 - 2 ^ n ≡ k - 2 ^ n - 1 = omega arith in
      (omega arith, rw (in_right l r k m, in_right l r (k - 1) (omega (arith, s.0)), e) s.1)
]

-- the slots of the counter that starts at slot k lie in the block
pub counter_in : {n : ℕ} (b : Block n) (k : ℕ) → k < 2 ^ n → k % 2 ^ (counter_at b k).level ≡ 0 → k + 2 ^ (counter_at b k).level ≤ 2 ^ n
unfolding counter_at
counter_in {n} (counter v) k h z = omega (arith, mod-eq_of_lt {n = k} {m = 2 ^ n} h)
counter_in (split {n} l r) k h z = elim (dec_lt k (2 ^ n)) [
  | yes m ↦ rw (in_left l r k m) (omega (arith, counter_in l k m (rw (in_left l r k m) at z)))
  | no m' ↦
      let m : 2 ^ n ≤ k = omega arith in
      let y : (k - 2 ^ n) % 2 ^ (counter_at r (k - 2 ^ n)).level ≡ 0 = sym (shifted n (counter_at r (k - 2 ^ n)).level k (level_le r (k - 2 ^ n)) m) ∙ (rw (in_right l r k m) at z) in
      rw (in_right l r k m) (omega (arith, counter_in r (k - 2 ^ n) (omega arith) y))
]

-- and are all in that counter
pub counter_slots : {n : ℕ} (b : Block n) (k j : ℕ) → k < 2 ^ n → k % 2 ^ (counter_at b k).level ≡ 0 → j < 2 ^ (counter_at b k).level
    → counter_at b (k + j) ≡ counter_at b k
unfolding counter_at
counter_slots (counter v) k j h z i = refl
counter_slots (split {n} l r) k j h z i = elim (dec_lt k (2 ^ n)) [
  | yes m ↦
      let y : k % 2 ^ (counter_at l k).level ≡ 0 = rw (in_left l r k m) at z in
      let q : j < 2 ^ (counter_at l k).level = rw (in_left l r k m) at i in
      rw (in_left l r k m, in_left l r (k + j) (omega (arith, counter_in l k m y))) (counter_slots l k j m y q)
  | no m' ↦
      let m : 2 ^ n ≤ k = omega arith in
      let y : (k - 2 ^ n) % 2 ^ (counter_at r (k - 2 ^ n)).level ≡ 0 = sym (shifted n (counter_at r (k - 2 ^ n)).level k (level_le r (k - 2 ^ n)) m) ∙ (rw (in_right l r k m) at z) in
      let q : j < 2 ^ (counter_at r (k - 2 ^ n)).level = rw (in_right l r k m) at i in
      let e : k + j - 2 ^ n ≡ k - 2 ^ n + j = omega arith in
      rw (in_right l r k m, in_right l r (k + j) (omega arith), e) (counter_slots r (k - 2 ^ n) j (omega arith) y q)
]

-- blocks of one layout whose slots have the same counters are the same
left_of : {n : ℕ} → Layout (suc n) → Layout n
left_of merged = merged
left_of (halves l r) = l

right_of : {n : ℕ} → Layout (suc n) → Layout n
right_of merged = merged
right_of (halves l r) = r

pub counters_ext : {n : ℕ} (b c : Block n) → shape b ≡ shape c → ((k : ℕ) → k < 2 ^ n → counter_at b k ≡ counter_at c k) → b ≡ c
unfolding shape counter_at is_merged left_of right_of
counters_ext {n} (counter u) (counter v) e f = ap (λ (c : Counter). counter c.value) (f 0 (pow_pos n))
counters_ext (counter u) (split l r) e f = absurd (true≢false (ap is_merged e))
counters_ext (split l r) (counter v) e f = absurd (true≢false (sym (ap is_merged e)))
counters_ext (split {n} l r) (split l' r') e f =
    ap₂ split
    (counters_ext l l' (ap left_of e) (λ k h. sym (in_left l r k h) ∙ f k (omega arith) ∙ in_left l' r' k h))
    (counters_ext r r' (ap right_of e) (λ k h. sym (from_right l r k) ∙ f (2 ^ n + k) (omega arith) ∙ from_right l' r' k))

-- a counter of the block's own level is the whole block; another leaves both halves below their caps
pub whole_total : {n : ℕ} (b : Block n) (k : ℕ) → (counter_at b k).level ≡ n → total b ≡ (counter_at b k).value
unfolding total counter_at
whole_total (counter v) k e = refl
whole_total (split {n} l r) k e = absurd (omega (arith, below))
  where
    below : (counter_at (split l r) k).level ≤ n
    below = counter_halves l r k (λ c. c.level ≤ n) (λ e. level_le l k) (λ e. level_le r (k - 2 ^ n))

pub halves_sum : {K : Kind} (S : Sums K) {n : ℕ} (b : BlockOf K (suc n)) → Fits b → is_merged (shape b) ≡ false → K.size (total b) < K.bound n + K.bound n
unfolding total Fits shape is_merged
halves_sum S (counter v) f e = absurd (true≢false e)
halves_sum S (split l r) f e = omega (arith, S.triangle (total l) (total r), total_size S l f.0, total_size S r f.1)

pub halves_total : {n : ℕ} (b : Block (suc n)) (k : ℕ) → Fits b → ((counter_at b k).level ≡ suc n → ⊥) → total b < cap n + cap n
unfolding total counter_at Fits
halves_total (counter v) k f e = absurd (e refl)
halves_total (split l r) k f e = omega (arith, total_lt l f.0, total_lt r f.1)
