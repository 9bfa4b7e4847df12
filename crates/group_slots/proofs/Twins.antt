-- An addition that its counter cannot hold, where the block around is two counters side by side: they become one counter of the next
-- level. For any level and any kind of counter.
use mathlib.Core.Path.{◌≡◌, sym, ap, ◌∙◌}
use mathlib.Core.Bool.{false}
use Prim.Native.Nat.{ℕ, suc, ◌+◌, ◌-◌, ◌*◌, ◌^◌, ◌≤◌, ◌<◌}
use native.Mathlib.Nat.{mul_assoc, add-mul, suc-mul, one-mul, zero-mul, add-sub_of_le, mul-le-mul_right, lt_of_mul-lt-mul_right}
use native.Mathlib.Decide.{dec_lt}
use native.Mathlib.Omega.{arith}
use borrow.Author.Tests.{lt-ltb, le-ltb}
use lib.Dec.{ltb}
use lib.Pow.{pow_pos, pow-add}
use Rattle.group_layout.specs.Layout.{ones, marks, level_of}
use Rattle.group_layout.proofs.Laws.{twice, double, level_le}
use Rattle.group_block.specs.Kind.{Kind}
use Rattle.group_block.specs.Block.{BlockOf, counter, split, cap, shape, number_of, counter_value, total}
use Rattle.group_block.specs.Sum.{SumOf, fits, held, join, add, sum_total}
use Rattle.group_block.proofs.Sums.{Sums, swap}
use Rattle.group_slots.proofs.Places.{add_left, add_right, higher_both}

-- what is in each half
module _ {K : Kind} {n : ℕ} (l r : BlockOf K n) (k : ℕ) where
  value_left : k < 2 ^ n → counter_value (split l r) k ≡ counter_value l k
  unfolding counter_value
  value_left h = rw (lt-ltb k (2 ^ n) h)

  value_right : 2 ^ n ≤ k → counter_value (split l r) k ≡ counter_value r (k - 2 ^ n)
  unfolding counter_value
  value_right h = rw (le-ltb k (2 ^ n) h)

  level_left : k < 2 ^ n → level_of (shape (split l r)) k ≡ level_of (shape l) k
  unfolding level_of shape
  level_left h = rw (lt-ltb k (2 ^ n) h)

  level_right : 2 ^ n ≤ k → level_of (shape (split l r)) k ≡ level_of (shape r) (k - 2 ^ n)
  unfolding level_of shape
  level_right h = rw (le-ltb k (2 ^ n) h)

-- two counters of level L from slot p on, and what an addition makes of the block
pub record Twins {K : Kind} {n : ℕ} (b : BlockOf K n) (L p : ℕ) (u v : K.Value) : Type 0 where
  pub first : counter_value b p ≡ u
  pub first_level : level_of (shape b) p ≡ L
  pub second : counter_value b (p + 2 ^ L) ≡ v
  pub second_level : level_of (shape b) (p + 2 ^ L) ≡ L

abbrev pub Widened : {K : Kind} {n : ℕ} → BlockOf K n → ℕ → K.Value → (L p : ℕ) → (u v : K.Value) → Type 0
Widened {K} {n} b k a L p u v =
    (b' : BlockOf K n)
    × (add b k a ≡ fits b')
    × (number_of b' + (K.bits L v * cap L + K.bits L u) * 2 ^ (8 * p) ≡ number_of b + K.bits (suc L) (K.plus (K.plus u v) a) * 2 ^ (8 * p))
    × (marks (shape b') ≡ marks (shape b) + 2 ^ (2 ^ L - 1) * 2 ^ p)

-- a counter of the block's own level is the whole block
is_whole : {K : Kind} {n : ℕ} (b : BlockOf K n) (k : ℕ) (v : K.Value) → counter_value b k ≡ v → level_of (shape b) k ≡ n → b ≡ counter v
unfolding counter_value
is_whole (counter u) k v e f = ap counter e
is_whole (split {n} l r) k v e f = absurd (omega (arith, below, f))
  where
    below : level_of (shape (split l r)) k ≤ n
    below = elim (dec_lt k (2 ^ n)) [
      | yes m ↦ rw (level_left l r k m) (level_le (shape l) k)
      | no m ↦ rw (level_right l r k (omega arith)) (level_le (shape r) (k - 2 ^ n))
    ]

-- two counters side by side become one: to their merge bits comes the own bit of the block
pub ones_twice : (n : ℕ) → ones (suc n) ≡ ones n * 2 ^ (2 ^ n) + ones n + 2 ^ (2 ^ n - 1)
unfolding ones
ones_twice n =
    let e : 2 ^ (2 ^ suc n - 1) ≡ 2 ^ (2 ^ n - 1) * 2 ^ (2 ^ n) = ap (λ (k : ℕ). 2 ^ k) (sym (twice n)) ∙ pow-add 2 (2 ^ n - 1) (2 ^ n) in
    omega (arith, e, double n, pow_pos (2 ^ n - 1), sub_mul)
  where
    sub_mul : (2 ^ (2 ^ n - 1) - 1) * 2 ^ (2 ^ n) + 2 ^ (2 ^ n) ≡ 2 ^ (2 ^ n - 1) * 2 ^ (2 ^ n)
    sub_mul =
        let x = 2 ^ (2 ^ n - 1) - 1 in
        let e : 2 ^ (2 ^ n - 1) ≡ x + 1 = omega (arith, pow_pos (2 ^ n - 1)) in
        sym (ap (λ (z : ℕ). z * 2 ^ (2 ^ n)) e ∙ add-mul x 1 (2 ^ (2 ^ n)) ∙ omega arith)

-- both counters are the halves of the block itself
module _ {K : Kind} (S : Sums K) {n : ℕ} (k : ℕ) (a u v : K.Value) (i : K.size (K.plus (K.plus u v) a) < K.bound (suc n)) where
  abbrev pair : BlockOf K (suc n)
  pair = split (counter u) (counter v)

  abbrev Past : Type 0
  Past = K.bound n ≤ K.size (K.plus (counter_value pair k) a)

  whole_added : Past → add pair k a ≡ fits (counter (K.plus (K.plus u v) a))
  unfolding add join held sum_total total counter_value
  whole_added h = elim (dec_lt k (2 ^ n)) [
    | yes m ↦
        let o : K.bound n ≤ K.size (K.plus u a) = rw (lt-ltb k (2 ^ n) m) at h in
        rw (lt-ltb k (2 ^ n) m, le-ltb (K.size (K.plus u a)) (K.bound n) o, swap S u a v, lt-ltb (K.size (K.plus (K.plus u v) a)) (K.bound (suc n)) i)
    | no m ↦
        let r : ltb k (2 ^ n) ≡ false = le-ltb k (2 ^ n) (omega arith) in
        let o : K.bound n ≤ K.size (K.plus v a) = rw r at h in
        rw (r, le-ltb (K.size (K.plus v a)) (K.bound n) o, ← S.assoc u v a, lt-ltb (K.size (K.plus (K.plus u v) a)) (K.bound (suc n)) i)
  ]

  widened_whole : Past → Widened pair k a n 0 u v
  unfolding number_of shape marks
  widened_whole h = (counter (K.plus (K.plus u v) a), whole_added h, omega arith, omega (arith, ones_twice n))

widen_top : {K : Kind} (S : Sums K) {n : ℕ} (l r : BlockOf K n) (k : ℕ) (a u v : K.Value) → Twins (split l r) n 0 u v
    → K.bound n ≤ K.size (K.plus (counter_value (split l r) k) a) → K.size (K.plus (K.plus u v) a) < K.bound (suc n)
    → Widened (split l r) k a n 0 u v
widen_top S {n} l r k a u v t h i =
    let e : 0 + 2 ^ n - 2 ^ n ≡ 0 = omega arith in
    let p : l ≡ counter u = is_whole l 0 u (sym (value_left l r 0 (pow_pos n)) ∙ t.first) (sym (level_left l r 0 (pow_pos n)) ∙ t.first_level) in
    let m : 2 ^ n ≤ 0 + 2 ^ n = omega arith in
    let q : r ≡ counter v = is_whole r (0 + 2 ^ n - 2 ^ n) v (sym (value_right l r (0 + 2 ^ n) m) ∙ t.second) (sym (level_right l r (0 + 2 ^ n) m) ∙ t.second_level) in
    rw (p, q) (widened_whole S k a u v i (rw (p, q) at h))

-- the bits of the right half
higher_bit : (i j x y z b : ℕ) → x ≡ y + b * 2 ^ j → x * 2 ^ i + z ≡ y * 2 ^ i + z + b * 2 ^ (i + j)
higher_bit i j x y z b e =
    let f : i + j ≡ j + i = omega arith in
    rw (e, f, pow-add 2 j i, ← mul_assoc b (2 ^ j) (2 ^ i)) (omega (arith, add-mul y (b * 2 ^ j) (2 ^ i)))

-- both counters are in one half
module _ {K : Kind} {n : ℕ} (l r : BlockOf K n) (k : ℕ) (a : K.Value) (L p : ℕ) (u v : K.Value) where
  twins_left : p + 2 ^ L < 2 ^ n → Twins (split l r) L p u v → Twins l L p u v
  twins_left h t =
      let g : p < 2 ^ n = omega arith in
      record {
        first = sym (value_left l r p g) ∙ t.first;
        first_level = sym (level_left l r p g) ∙ t.first_level;
        second = sym (value_left l r (p + 2 ^ L) h) ∙ t.second;
        second_level = sym (level_left l r (p + 2 ^ L) h) ∙ t.second_level;
      }

  twins_right : Twins (split l r) L (2 ^ n + p) u v → Twins r L p u v
  twins_right t =
      let e : 2 ^ n + p - 2 ^ n ≡ p = omega arith in
      let f : 2 ^ n + p + 2 ^ L - 2 ^ n ≡ p + 2 ^ L = omega arith in
      let g : 2 ^ n ≤ 2 ^ n + p = omega arith in
      let h : 2 ^ n ≤ 2 ^ n + p + 2 ^ L = omega arith in
      record {
        first = ap (counter_value r) (sym e) ∙ sym (value_right l r (2 ^ n + p) g) ∙ t.first;
        first_level = ap (level_of (shape r)) (sym e) ∙ sym (level_right l r (2 ^ n + p) g) ∙ t.first_level;
        second = ap (counter_value r) (sym f) ∙ sym (value_right l r (2 ^ n + p + 2 ^ L) h) ∙ t.second;
        second_level = ap (level_of (shape r)) (sym f) ∙ sym (level_right l r (2 ^ n + p + 2 ^ L) h) ∙ t.second_level;
      }

  abbrev old : ℕ
  old = K.bits L v * cap L + K.bits L u

  abbrev new : ℕ
  new = K.bits (suc L) (K.plus (K.plus u v) a)

  widen_left : k < 2 ^ n → Widened l k a L p u v → Widened (split l r) k a L p u v
  unfolding number_of shape marks join
  widen_left m w = (split w.0 r, add_left l r k a m ∙ ap (λ (x : SumOf K n). join x (fits r)) w.1, omega (arith, w.2), omega (arith, w.3))

  word_right : (x : BlockOf K n) → number_of x + old * 2 ^ (8 * p) ≡ number_of r + new * 2 ^ (8 * p)
      → number_of (split l x) + old * 2 ^ (8 * (2 ^ n + p)) ≡ number_of (split l r) + new * 2 ^ (8 * (2 ^ n + p))
  unfolding number_of cap
  word_right x e = higher_both (2 ^ n) p (number_of x) (number_of r) (number_of l) old new e

  marks_right : (x : BlockOf K n) → marks (shape x) ≡ marks (shape r) + 2 ^ (2 ^ L - 1) * 2 ^ p
      → marks (shape (split l x)) ≡ marks (shape (split l r)) + 2 ^ (2 ^ L - 1) * 2 ^ (2 ^ n + p)
  unfolding shape marks
  marks_right x e = higher_bit (2 ^ n) p (marks (shape x)) (marks (shape r)) (marks (shape l)) (2 ^ (2 ^ L - 1)) e

  widen_right : 2 ^ n ≤ k → Widened r (k - 2 ^ n) a L p u v → Widened (split l r) k a L (2 ^ n + p) u v
  unfolding join
  widen_right m w =
      (split l w.0, add_right l r k a m ∙ ap (λ (x : SumOf K n). join (fits l) x) w.1, word_right w.0 w.2, marks_right w.0 w.3)

-- multiples of the size of the block that is formed, in the left half and in the right one
pub multiple : (n L : ℕ) → L < n → 2 ^ n ≡ 2 ^ (n - suc L) * 2 ^ suc L
multiple n L g = ap (λ (x : ℕ). 2 ^ x) (omega arith) ∙ pow-add 2 (n - suc L) (suc L)

pub whole_left : (n L i k : ℕ) → L < n → i * 2 ^ suc L ≤ k → k < 2 ^ n → i * 2 ^ suc L + 2 ^ suc L ≤ 2 ^ n
whole_left n L i k g lo m =
    let c = multiple n L g in
    let below : i < 2 ^ (n - suc L) = lt_of_mul-lt-mul_right (2 ^ suc L) {m = i} {n = 2 ^ (n - suc L)} (omega arith) in
    omega (arith, mul-le-mul_right {m = suc i} {n = 2 ^ (n - suc L)} (2 ^ suc L) below, suc-mul i (2 ^ suc L))

from_right : (n L i k : ℕ) → L < n → k < i * 2 ^ suc L + 2 ^ suc L → 2 ^ n ≤ k → i * 2 ^ suc L ≡ 2 ^ n + (i - 2 ^ (n - suc L)) * 2 ^ suc L
from_right n L i k g hi m =
    let c = multiple n L g in
    let j = 2 ^ (n - suc L) in
    let from : j < suc i = lt_of_mul-lt-mul_right (2 ^ suc L) {m = j} {n = suc i} (omega (arith, suc-mul i (2 ^ suc L))) in
    ap (λ (x : ℕ). x * 2 ^ suc L) (sym (add-sub_of_le {n = i} {m = j} (omega arith))) ∙ add-mul j (i - j) (2 ^ suc L)
    ∙ ap (λ (x : ℕ). x + (i - j) * 2 ^ suc L) (sym c)

at_zero : (L i k : ℕ) → i * 2 ^ suc L ≤ k → k < 2 ^ suc L → i * 2 ^ suc L ≡ 0
at_zero L i k lo h =
    let z : i < 1 = lt_of_mul-lt-mul_right (2 ^ suc L) {m = i} {n = 1} (omega (arith, one-mul (2 ^ suc L))) in
    let y : i ≡ 0 = omega arith in
    ap (λ (x : ℕ). x * 2 ^ suc L) y ∙ zero-mul (2 ^ suc L)

-- the law, for slot k in the block of the next level that starts at slot i * 2 ^ suc L
abbrev pub Widens : {K : Kind} {n : ℕ} → BlockOf K n → ℕ → K.Value → (L i : ℕ) → (u v : K.Value) → Type 0
Widens {K} {n} b k a L i u v =
    L < n → k < 2 ^ n → i * 2 ^ suc L ≤ k → k < i * 2 ^ suc L + 2 ^ suc L → Twins b L (i * 2 ^ suc L) u v
    → K.bound L ≤ K.size (K.plus (counter_value b k) a) → K.size (K.plus (K.plus u v) a) < K.bound (suc L) → Widened b k a L (i * 2 ^ suc L) u v

module _ {K : Kind} (S : Sums K) where
  widens_top : {n : ℕ} (l r : BlockOf K n) (k : ℕ) (a : K.Value) (L i : ℕ) (u v : K.Value) → L ≡ n → Widens (split l r) k a L i u v
  widens_top {n} l r k a L i u v e h kn lo hi t o s =
      let size : 2 ^ suc n ≡ 2 ^ suc L = ap (λ (x : ℕ). 2 ^ suc x) (sym e) in
      let p : i * 2 ^ suc L ≡ 0 = at_zero L i k lo (omega arith) in
      rw (p, e) (widen_top S l r k a u v (rw (p, e) at t) (rw e at o) (rw e at s))

  widens_left : {n : ℕ} (l r : BlockOf K n) (k : ℕ) (a : K.Value) (L i : ℕ) (u v : K.Value) → L < n → k < 2 ^ n → Widens l k a L i u v → Widens (split l r) k a L i u v
  widens_left {n} l r k a L i u v g m f h kn lo hi t o s =
      widen_left l r k a L (i * 2 ^ suc L) u v m
      (f g m lo hi (twins_left l r k a L (i * 2 ^ suc L) u v (omega (arith, whole_left n L i k g lo m, pow_pos L)) t) (rw (value_left l r k m) at o) s)

  widens_right : {n : ℕ} (l r : BlockOf K n) (k : ℕ) (a : K.Value) (L i : ℕ) (u v : K.Value) → L < n → 2 ^ n ≤ k
      → Widens r (k - 2 ^ n) a L (i - 2 ^ (n - suc L)) u v → Widens (split l r) k a L i u v
  widens_right {n} l r k a L i u v g m f h kn lo hi t o s =
      let q = (i - 2 ^ (n - suc L)) * 2 ^ suc L in
      let e : i * 2 ^ suc L ≡ 2 ^ n + q = from_right n L i k g hi m in
      rw e
      (widen_right l r k a L q u v m
      (f g (omega arith) (omega arith) (omega arith) (twins_right l r k a L q u v (rw e at t)) (rw (value_right l r k m) at o) s))

  pub widens : {n : ℕ} (b : BlockOf K n) (k : ℕ) (a : K.Value) (L i : ℕ) (u v : K.Value) → Widens b k a L i u v
  unfolding level_of shape
  widens {n} (counter w) k a L i u v = λ h kn lo hi t o s. absurd (omega (arith, t.first_level))
  widens (split {n} l r) k a L i u v = λ h. elim (dec_lt L n) [
    | no g ↦ widens_top l r k a L i u v (omega arith) h
    | yes g ↦ elim (dec_lt k (2 ^ n)) [
      | yes m ↦ widens_left l r k a L i u v g m (widens l k a L i u v) h
      | no m ↦ widens_right l r k a L i u v g (omega arith) (widens r (k - 2 ^ n) a L (i - 2 ^ (n - suc L)) u v) h
    ]
  ]
