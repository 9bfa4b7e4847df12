-- The place of a counter in its block's count bytes, taken as one number: what is read there, and what an addition that the
-- counter holds does to the number. For any level.
use mathlib.Core.Path.{◌≡◌, refl, ap, ◌∙◌}
use mathlib.Core.Bool.{cond}
use Prim.Native.Nat.{ℕ, ◌+◌, ◌-◌, ◌*◌, ◌/◌, ◌%◌, ◌^◌, ◌≤◌, ◌<◌}
use native.Mathlib.Nat.{mul_assoc, add-mul, div-one, div-add-mod', mod-eq_of_lt, mul-add-div_right, mul-add-mod_self_right}
use native.Mathlib.Decide.{dec_lt}
use native.Mathlib.Omega.{arith}
use borrow.Author.Tests.{lt-ltb, le-ltb}
use lib.Arith.{digits_div}
use lib.Dec.{ltb}
use lib.Pow.{pow_pos, pow-add, shr-shr}
use Rattle.group_layout.specs.Layout.{Layout, halves}
use Rattle.group_block.specs.Kind.{Kind}
use Rattle.group_block.specs.Block.{BlockOf, Block, counter, split, cap, Fits, shape, number_of, counter_at}
use Rattle.group_block.specs.Change.{change}
use Rattle.group_block.specs.Sum.{fits, held, join, add}
use Rattle.group_block.proofs.Laws.{word_lt}
use Rattle.group_slots.proofs.Slots.{in_left, in_right, level_le, shifted, change_left, change_right}

-- the first slot of the counter that slot k is in
unfoldable pub first : {n : ℕ} → Block n → ℕ → ℕ
first (counter v) k = 0
first (split {n} l r) k = cond (ltb k (2 ^ n)) (first l k) (2 ^ n + first r (k - 2 ^ n))

-- what is in each half
module _ {n : ℕ} (l r : Block n) (k : ℕ) where
  first_left : k < 2 ^ n → first (split l r) k ≡ first l k
  unfolding first
  first_left h = rw (lt-ltb k (2 ^ n) h)

  first_right : 2 ^ n ≤ k → first (split l r) k ≡ 2 ^ n + first r (k - 2 ^ n)
  unfolding first
  first_right h = rw (le-ltb k (2 ^ n) h)

module _ {K : Kind} {n : ℕ} (l r : BlockOf K n) (k : ℕ) (a : K.Value) where
  pub add_left : k < 2 ^ n → add (split l r) k a ≡ join (add l k a) (fits r)
  unfolding add
  add_left h = rw (lt-ltb k (2 ^ n) h)

  pub add_right : 2 ^ n ≤ k → add (split l r) k a ≡ join (fits l) (add r (k - 2 ^ n) a)
  unfolding add
  add_right h = rw (le-ltb k (2 ^ n) h)

-- a counter of a level starts at a multiple of its size
first_and : {n : ℕ} (b : Block n) (k : ℕ) → k < 2 ^ n → first b k + k % 2 ^ (counter_at b k).level ≡ k
unfolding first counter_at
first_and {n} (counter v) k h = omega (arith, mod-eq_of_lt {n = k} {m = 2 ^ n} h)
first_and (split {n} l r) k h = elim (dec_lt k (2 ^ n)) [
  | yes m ↦ rw (first_left l r k m, in_left l r k m) (first_and l k m)
  | no m' ↦
      let m : 2 ^ n ≤ k = omega arith in
      rw (first_right l r k m, in_right l r k m, shifted n (counter_at r (k - 2 ^ n)).level k (level_le r (k - 2 ^ n)) m)
      (omega (arith, first_and r (k - 2 ^ n) (omega arith)))
]

pub first_is : {n : ℕ} (b : Block n) (k : ℕ) → k < 2 ^ n → first b k ≡ k / 2 ^ (counter_at b k).level * 2 ^ (counter_at b k).level
first_is b k h = omega (arith, first_and b k h, div-add-mod' k (2 ^ (counter_at b k).level))

-- its slots are in the block
pub first_in : {n : ℕ} (b : Block n) (k : ℕ) → first b k + 2 ^ (counter_at b k).level ≤ 2 ^ n
unfolding first counter_at
first_in (counter v) k = omega arith
first_in (split {n} l r) k = elim (dec_lt k (2 ^ n)) [
  | yes m ↦ rw (first_left l r k m, in_left l r k m) (omega (arith, first_in l k))
  | no m' ↦
      let m : 2 ^ n ≤ k = omega arith in
      rw (first_right l r k m, in_right l r k m) (omega (arith, first_in r (k - 2 ^ n)))
]

-- bits above a field are not in it
pub above : (a b i j x : ℕ) → (a * 2 ^ (x + j + i) + b) / 2 ^ i % 2 ^ j ≡ b / 2 ^ i % 2 ^ j
above a b i j x =
    rw (pow-add 2 (x + j) i, ← mul_assoc a (2 ^ (x + j)) (2 ^ i), mul-add-div_right (pow_pos i) (a * 2 ^ (x + j)) b, pow-add 2 x j, ← mul_assoc a (2 ^ x) (2 ^ j))
    (mul-add-mod_self_right (a * 2 ^ x) (2 ^ j) (b / 2 ^ i))

-- a counter's value is a field of the number
pub value_is : {n : ℕ} (b : Block n) (k : ℕ) → Fits b → number_of b / 2 ^ (8 * first b k) % cap (counter_at b k).level ≡ (counter_at b k).value
unfolding first counter_at number_of Fits cap
value_is {n} (counter v) k f = rw (div-one v) (mod-eq_of_lt {n = v} {m = 2 ^ (8 * 2 ^ n)} f)
value_is (split {n} l r) k f = elim (dec_lt k (2 ^ n)) [
  | yes m ↦
      let i = 8 * first l k in
      let j = 8 * 2 ^ (counter_at l k).level in
      let e : 8 * 2 ^ n ≡ 8 * 2 ^ n - (j + i) + j + i = omega (arith, first_in l k) in
      rw (first_left l r k m, in_left l r k m, e) (above (number_of r) (number_of l) i j (8 * 2 ^ n - (j + i)) ∙ value_is l k f.0)
  | no m' ↦
      let m : 2 ^ n ≤ k = omega arith in
      let e : 8 * (2 ^ n + first r (k - 2 ^ n)) ≡ 8 * 2 ^ n + 8 * first r (k - 2 ^ n) = omega arith in
      rw (
        first_right l r k m,
        in_right l r k m,
        e,
        ← shr-shr (number_of r * 2 ^ (8 * 2 ^ n) + number_of l) (8 * 2 ^ n) (8 * first r (k - 2 ^ n)),
        digits_div (number_of r) (word_lt l f.0),
      )
      (value_is r (k - 2 ^ n) f.1)
]

-- an addition that its counter can hold leaves the layout, adds to the counter's value, and to the number at the counter's place
abbrev pub InPlace : {n : ℕ} → Block n → ℕ → ℕ → Type 0
InPlace {n} b k a = (b' : Block n) × (add b k a ≡ fits b') × (shape b' ≡ shape b) × (number_of b' ≡ number_of b + a * 2 ^ (8 * first b k))
    × (counter_at b' k ≡ record { value = (counter_at b k).value + a; level = (counter_at b k).level })

pub add_in_place : {n : ℕ} (b : Block n) (k a : ℕ) → (counter_at b k).value + a < cap (counter_at b k).level → InPlace b k a
unfolding add join shape number_of first counter_at held cap
add_in_place {n} (counter v) k a h = (counter (v + a), rw (lt-ltb (v + a) (cap n) h), refl, omega arith, refl)
add_in_place (split {n} l r) k a h = elim (dec_lt k (2 ^ n)) [
  | yes m ↦
      let s = add_in_place l k a (rw (in_left l r k m) at h) in (
        split s.0 r,
        rw (add_left l r k a m, s.1),
        ap (λ (L : Layout n). halves L (shape r)) s.2,
        rw (first_left l r k m) (omega (arith, s.3)),
        rw (in_left s.0 r k m, in_left l r k m) s.4,
      )
  | no m' ↦
      let m : 2 ^ n ≤ k = omega arith in
      let s = add_in_place r (k - 2 ^ n) a (rw (in_right l r k m) at h) in (
        split l s.0,
        rw (add_right l r k a m, s.1),
        ap (λ (L : Layout n). halves (shape l) L) s.2,
        rw (first_right l r k m, s.3) (higher (number_of r) (number_of l) a (2 ^ n) (first r (k - 2 ^ n))),
        rw (in_right l s.0 k m, in_right l r k m) s.4,
      )
]
  where
    higher : (x y a i j : ℕ) → (x + a * 2 ^ (8 * j)) * 2 ^ (8 * i) + y ≡ x * 2 ^ (8 * i) + y + a * 2 ^ (8 * (i + j))
    higher x y a i j =
        let e : 8 * (i + j) ≡ 8 * j + 8 * i = omega arith in
        rw (e, pow-add 2 (8 * j) (8 * i), add-mul, mul_assoc a (2 ^ (8 * j)) (2 ^ (8 * i))) (omega arith)

-- an equation of numbers holds higher up too
pub higher_both : (i j a b y u v : ℕ) → a + u * 2 ^ (8 * j) ≡ b + v * 2 ^ (8 * j)
    → a * 2 ^ (8 * i) + y + u * 2 ^ (8 * (i + j)) ≡ b * 2 ^ (8 * i) + y + v * 2 ^ (8 * (i + j))
higher_both i j a b y u v e =
    let f : 8 * (i + j) ≡ 8 * j + 8 * i = omega arith in
    rw (f, pow-add 2 (8 * j) (8 * i), ← mul_assoc u (2 ^ (8 * j)) (2 ^ (8 * i)), ← mul_assoc v (2 ^ (8 * j)) (2 ^ (8 * i)))
    (omega (
      arith,
      ap (λ (z : ℕ). z * 2 ^ (8 * i)) e,
      add-mul a (u * 2 ^ (8 * j)) (2 ^ (8 * i)),
      add-mul b (v * 2 ^ (8 * j)) (2 ^ (8 * i)),
    ))

-- another value in the counter changes the number at the counter's place
pub change_word : {n : ℕ} (b : Block n) (k x : ℕ)
    → number_of (change b k x) + (counter_at b k).value * 2 ^ (8 * first b k) ≡ number_of b + x % cap (counter_at b k).level * 2 ^ (8 * first b k)
unfolding change number_of first counter_at cap
change_word (counter v) k x = omega arith
change_word (split {n} l r) k x = elim (dec_lt k (2 ^ n)) [
  | yes m ↦ rw (change_left l r k x m, first_left l r k m, in_left l r k m) (omega (arith, change_word l k x))
  | no m' ↦
      let m : 2 ^ n ≤ k = omega arith in
      rw (change_right l r k x m, first_right l r k m, in_right l r k m)
      (higher_both (2 ^ n) (first r (k - 2 ^ n)) (number_of (change r (k - 2 ^ n) x)) (number_of r) (number_of l) (counter_at r (k - 2 ^ n)).value (x % cap (counter_at r (k - 2 ^ n)).level) (change_word r (k - 2 ^ n) x))
]
