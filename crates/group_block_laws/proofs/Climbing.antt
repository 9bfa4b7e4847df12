-- An addition is the climb from its slot, for any kind of counter and any level.
use mathlib.Core.Path.{◌≡◌, refl, sym, ap, ◌∙◌}
use mathlib.Core.Bool.{Bool, true, false, cond}
use Prim.Native.Nat.{ℕ, zero, suc, ◌+◌, ◌-◌, ◌*◌, ◌/◌, ◌%◌, ◌^◌, ◌≤◌, ◌<◌}
use native.Mathlib.Nat.{mod-lt, sub_self, mul_assoc, mul-add-div_right, pow-suc}
use native.Mathlib.Decide.{dec_lt}
use native.Mathlib.Omega.{arith}
use borrow.Author.Tests.{lt-ltb, le-ltb}
use lib.Dec.{ltb}
use lib.Pow.{pow_pos, pow-add, shr_lt}
use Rattle.group_layout.specs.Layout.{level_of}
use Rattle.group_layout.proofs.Laws.{level_le}
use Rattle.group_block.specs.Kind.{Kind}
use Rattle.group_block.specs.Block.{BlockOf, Block, counter, split, shape, counter_value, total}
use Rattle.group_block.specs.Sum.{SumOf, fits, over, held, join, add, sum_total}
use Rattle.group_block.proofs.Sums.{Sums, ordinary_sums}
use Rattle.group_block_laws.specs.Climb.{sibling, total_at, form_at, climb, climb_from}

-- the whole block
total_whole : {K : Kind} {m : ℕ} (b : BlockOf K m) (i : ℕ) → total_at b m i ≡ total b
unfolding total_at total
total_whole (counter v) i = refl
total_whole (split {n = m} l r) i = rw (lt-ltb m (suc m) (omega arith))

form_whole : {K : Kind} {m : ℕ} (b : BlockOf K m) (i : ℕ) (v : K.Value) → form_at b m i v ≡ counter v
unfolding form_at
form_whole (counter w) i v = refl
form_whole (split {n = m} l r) i v = rw (lt-ltb m (suc m) (omega arith))

-- Block i of the blocks f levels below a half is block d * 2 ^ f + i of the blocks f + 1 levels below the whole, where d is 0 for the
-- left half and 1 for the right.
twice : (d f : ℕ) → d * 2 ^ suc f ≡ d * 2 ^ f * 2
twice d f = rw (pow-suc 2 f, mul_assoc d (2 ^ f) 2)

sibling_in : (d f i : ℕ) → sibling (d * 2 ^ suc f + i) ≡ d * 2 ^ suc f + sibling i
unfolding sibling
sibling_in d f i = omega (arith, twice d f)

sibling_lt : (f i : ℕ) → i < 2 ^ suc f → sibling i < 2 ^ suc f
unfolding sibling
sibling_lt f i h = omega (arith, twice 1 f)

parent_in : (d f i : ℕ) → (d * 2 ^ suc f + i) / 2 ≡ d * 2 ^ f + i / 2
parent_in d f i = omega (arith, twice d f)

parent_lt : (f i : ℕ) → i < 2 ^ suc f → i / 2 < 2 ^ f
parent_lt f i h = omega (arith, twice 1 f)

-- a sum at the top, with no level above it
climb_whole : {K : Kind} {m : ℕ} (b : BlockOf K m) (i : ℕ) (s : K.Value) → climb b 0 m i s ≡ held m s
unfolding climb held
climb_whole b i s = rw (form_whole b i s)

-- A half x of a block b, with y beside it: where its blocks are in b, and what is left of b by what is left of x.
record Half {K : Kind} {m : ℕ} (d : ℕ) (joined : SumOf K m → SumOf K (suc m)) (b : BlockOf K (suc m)) (x y : BlockOf K m) : Type 0 where
  put : BlockOf K m → BlockOf K (suc m)
  total_in : (n f i j : ℕ) → n + f ≡ m → i < 2 ^ f → j ≡ d * 2 ^ f + i → total_at b n j ≡ total_at x n i
  form_in : (n f i j : ℕ) (v : K.Value) → n + f ≡ m → i < 2 ^ f → j ≡ d * 2 ^ f + i → form_at b n j v ≡ put (form_at x n i v)
  beside : total_at b m (sibling d) ≡ total y
  joined_fits : (z : BlockOf K m) → joined (fits z) ≡ fits (put z)
  joined_over : (s : K.Value) → joined (over s) ≡ held (suc m) (K.plus s (total y))

-- the half that has a block, of two
in_left : {A : Type 0} (m n f i j : ℕ) (w l r : A) → n + f ≡ m → i < 2 ^ f → j ≡ 0 * 2 ^ f + i → cond (ltb m n) w (cond (ltb j (2 ^ (m - n))) l r) ≡ l
in_left m n f i j w l r e h q =
    let u : m - n ≡ f = omega arith in
    rw (le-ltb m n (omega arith), u, lt-ltb j (2 ^ f) (omega (arith, q)))

in_right : {A : Type 0} (m n f i j : ℕ) (w l r : A) → n + f ≡ m → i < 2 ^ f → j ≡ 1 * 2 ^ f + i → cond (ltb m n) w (cond (ltb j (2 ^ (m - n))) l r) ≡ r
in_right m n f i j w l r e h q =
    let u : m - n ≡ f = omega arith in
    rw (le-ltb m n (omega arith), u, le-ltb j (2 ^ f) (omega (arith, q)))

index_right : (m n f i j : ℕ) → n + f ≡ m → j ≡ 1 * 2 ^ f + i → j - 2 ^ (m - n) ≡ i
index_right m n f i j e q =
    let u : m - n ≡ f = omega arith in
    rw u (omega (arith, q))

left : {K : Kind} {m : ℕ} (l r : BlockOf K m) → Half 0 (λ z. join z (fits r)) (split l r) l r
unfolding total_at form_at sibling join sum_total
left {K} {m} l r = record {
  put = λ z. split z r;
  total_in = λ n f i j e h q. in_left m n f i j _ _ _ e h q ∙ ap (total_at l n) (omega (arith, q));
  form_in = λ n f i j v e h q. in_left m n f i j _ _ _ e h q ∙ ap (λ (z : ℕ). split (form_at l n z v) r) (omega (arith, q));
  beside = rw (le-ltb m m (omega arith), sub_self m) (total_whole r 0);
  joined_fits = λ z. refl;
  joined_over = λ s. refl;
}

right : {K : Kind} (S : Sums K) {m : ℕ} (l r : BlockOf K m) → Half 1 (λ z. join (fits l) z) (split l r) r l
unfolding total_at form_at sibling join sum_total
right {K} S {m} l r = record {
  put = λ z. split l z;
  total_in = λ n f i j e h q. in_right m n f i j _ _ _ e h q ∙ ap (total_at r n) (index_right m n f i j e q);
  form_in = λ n f i j v e h q. in_right m n f i j _ _ _ e h q ∙ ap (λ (z : ℕ). split l (form_at r n z v)) (index_right m n f i j e q);
  beside = rw (le-ltb m m (omega arith), sub_self m) (total_whole l 0);
  joined_fits = λ z. refl;
  joined_over = λ s. ap (held (suc m)) (S.comm (total l) s);
}

module _ {K : Kind} {m : ℕ} (d : ℕ) (joined : SumOf K m → SumOf K (suc m)) (b : BlockOf K (suc m)) (x y : BlockOf K m) (h : Half d joined b x y) where
  try : (t : Bool) (p q : SumOf K (suc m)) (p' q' : SumOf K m) → p ≡ joined p' → q ≡ joined q' → cond t p q ≡ joined (cond t p' q')
  try true p q p' q' e f = e
  try false p q p' q' e f = f

  -- a climb that starts in a half goes on in the whole where the half's is over
  climb_in : (f n i j : ℕ) (s : K.Value) → n + f ≡ m → i < 2 ^ f → j ≡ d * 2 ^ f + i → climb b (suc f) n j s ≡ joined (climb x f n i s)
  unfolding climb
  climb_in zero n i j s e k q =
      let en : n ≡ m = omega arith in
      let ej : j ≡ d = omega (arith, q) in
      let side : total_at b n (sibling j) ≡ total y = rw (en, ej) h.beside in
      try (ltb (K.size s) (K.bound n)) _ _ _ _
      (ap fits (h.form_in n 0 i j s e k q) ∙ sym (h.joined_fits (form_at x n i s)))
      (ap (λ (z : K.Value). climb b 0 (suc n) (j / 2) (K.plus s z)) side ∙ rw en (climb_whole b (j / 2) (K.plus s (total y))) ∙ sym (h.joined_over s))
  climb_in (suc f) n i j s e k q =
      let sib : sibling j ≡ d * 2 ^ suc f + sibling i = ap sibling q ∙ sibling_in d f i in
      let up : j / 2 ≡ d * 2 ^ f + i / 2 = ap (λ (z : ℕ). z / 2) q ∙ parent_in d f i in
      let side : total_at b n (sibling j) ≡ total_at x n (sibling i) = h.total_in n (suc f) (sibling i) (sibling j) e (sibling_lt f i k) sib in
      try (ltb (K.size s) (K.bound n)) _ _ _ _
      (ap fits (h.form_in n (suc f) i j s e k q) ∙ sym (h.joined_fits (form_at x n i s)))
      (ap (λ (z : K.Value). climb b (suc f) (suc n) (j / 2) (K.plus s z)) side
      ∙ climb_in f (suc n) (i / 2) (j / 2) (K.plus s (total_at x n (sibling i))) (omega (arith, e)) (parent_lt f i k) up)

-- the block of level n that slot k of a half is in
slot_in : (d m n k : ℕ) → n ≤ m → (d * 2 ^ m + k) / 2 ^ n ≡ d * 2 ^ (m - n) + k / 2 ^ n
slot_in d m n k h =
    let e : m - n + n ≡ m = omega arith in
    let p : d * 2 ^ m ≡ d * 2 ^ (m - n) * 2 ^ n = ap (λ (z : ℕ). d * 2 ^ z) (sym e) ∙ rw (pow-add 2 (m - n) n, mul_assoc d (2 ^ (m - n)) (2 ^ n)) in
    rw p (mul-add-div_right (pow_pos n) (d * 2 ^ (m - n)) k)

-- the climb from a slot of a half
from_in : {K : Kind} {m d : ℕ} {joined : SumOf K m → SumOf K (suc m)} {b : BlockOf K (suc m)} {x y : BlockOf K m} → Half d joined b x y
    → (k j : ℕ) (a : K.Value) → k < 2 ^ m → j ≡ d * 2 ^ m + k → level_of (shape b) j ≡ level_of (shape x) k → counter_value b j ≡ counter_value x k → climb_from b j a ≡ joined (climb_from x k a)
unfolding climb_from
from_in {K} {m} {d} {joined} {b} {x} {y} h k j a p q el ev =
    let n = level_of (shape x) k in
    let le : n ≤ m = level_le (shape x) k in
    let e : n + (m - n) ≡ m = omega arith in
    let f : suc m - n ≡ suc (m - n) = omega arith in
    let g : m ≡ m - n + n = omega arith in
    rw (el, ev, f)
    (climb_in d joined b x y h (m - n) n (k / 2 ^ n) (j / 2 ^ n) (K.plus (counter_value x k) a) e
    (shr_lt (m - n) n (rw (← g) p)) (ap (λ (z : ℕ). z / 2 ^ n) q ∙ slot_in d m n k le))

counter_climbs : (K : Kind) (m : ℕ) (v : K.Value) (k : ℕ) (a : K.Value) → climb_from {K = K} {m = m} (counter v) k a ≡ held m (K.plus v a)
unfolding climb_from level_of shape counter_value
counter_climbs K m v k a = rw (sub_self m) (climb_whole (counter v) (k / 2 ^ m) (K.plus v a))

-- An addition to slot k is the climb from it.
pub add_climbs : {K : Kind} (S : Sums K) {m : ℕ} (b : BlockOf K m) (k : ℕ) (a : K.Value) → k < 2 ^ m → add b k a ≡ climb_from b k a
unfolding add level_of shape counter_value
add_climbs {K} S {m} (counter v) k a h = sym (counter_climbs K m v k a)
add_climbs {K} S (split {n = m} l r) k a h = elim (dec_lt k (2 ^ m)) [
  | yes p ↦
      let t : ltb k (2 ^ m) ≡ true = lt-ltb k (2 ^ m) p in
      rw t (ap (λ (z : SumOf K m). join z (fits r)) (add_climbs S l k a p) ∙ sym (from_in (left l r) k k a p (omega arith) (rw t) (rw t)))
  | no p ↦
      let t : ltb k (2 ^ m) ≡ false = le-ltb k (2 ^ m) (omega arith) in
      let q : k - 2 ^ m < 2 ^ m = omega (arith, pow-suc 2 m) in
      rw t
      (ap (λ (z : SumOf K m). join (fits l) z) (add_climbs S r (k - 2 ^ m) a q)
      ∙ sym (from_in (right S l r) (k - 2 ^ m) k a q (omega arith) (rw t) (rw t)))
]

-- so of a group, in which a slot number counts by its remainder by 8
pub group_climbs : (b : Block 3) (k a : ℕ) → add b (k % 8) a ≡ climb_from b (k % 8) a
group_climbs b k a = add_climbs ordinary_sums b (k % 8) a (mod-lt k (omega arith))
