-- Laws of adding and uniting, for any level.
use mathlib.Core.Path.{◌≡◌, refl, sym, ◌∙◌}
use mathlib.Core.Bool.{Bool, true, false, cond}
use Prim.Native.Nat.{ℕ, suc, ◌+◌, ◌-◌, ◌^◌, ◌≤◌, ◌<◌}
use native.Mathlib.Omega.{arith}
use borrow.Author.Tests.{ltb-true, ltb-false}
use lib.Dec.{ltb}
use Rattle.group_block.specs.Kind.{Kind}
use Rattle.group_block.specs.Block.{BlockOf, Block, counter, split, cap, Fits, total, sizes}
use Rattle.group_block.specs.Sum.{SumOf, fits, over, held, join, add, unite, sum_total}
use Rattle.group_block.proofs.Sums.{Sums, ordinary_sums, swap, cross}

-- a block whose counters hold their values, or a sum that does not fit
unfoldable pub Sound : {K : Kind} {n : ℕ} → SumOf K n → Type 0
Sound (fits b) = Fits b
Sound {K} {n} (over s) = K.bound n ≤ K.size s

-- the two cases of a sum that is tried
pub held_cases : {K : Kind} (n : ℕ) (s : K.Value) (P : SumOf K n → Type 0)
    → (K.size s < K.bound n → P (fits (counter s))) → (K.bound n ≤ K.size s → P (over s)) → P (held n s)
unfolding held
held_cases {K} n s P f g = go (ltb (K.size s) (K.bound n)) refl
  where
    go : (b : Bool) → ltb (K.size s) (K.bound n) ≡ b → P (cond b (fits (counter s)) (over s))
    go true e = f (ltb-true (K.size s) (K.bound n) e)
    go false e = g (ltb-false (K.size s) (K.bound n) e)

pub held_total : (K : Kind) (n : ℕ) (s : K.Value) → sum_total (held {K = K} n s) ≡ s
unfolding sum_total total
held_total K n s = held_cases n s (λ x. sum_total x ≡ s) (λ h. refl) (λ h. refl)

held_sound : (K : Kind) (n : ℕ) (s : K.Value) → Sound (held {K = K} n s)
unfolding Sound Fits
held_sound K n s = held_cases n s Sound (λ h. h) (λ h. h)

join_total : {K : Kind} {n : ℕ} (x y : SumOf K n) → sum_total (join x y) ≡ K.plus (sum_total x) (sum_total y)
unfolding join sum_total total
join_total (fits l) (fits r) = refl
join_total {K} {n} (fits l) (over t) = held_total K (suc n) (K.plus (total l) t)
join_total {K} {n} (over s) y = held_total K (suc n) (K.plus s (sum_total y))

pub join_sound : {K : Kind} {n : ℕ} (x y : SumOf K n) → Sound x → Sound y → Sound (join x y)
unfolding join Sound Fits
join_sound (fits l) (fits r) f g = (f, g)
join_sound {K} {n} (fits l) (over t) f g = held_sound K (suc n) (K.plus (total l) t)
join_sound {K} {n} (over s) y f g = held_sound K (suc n) (K.plus s (sum_total y))

-- the two cases of an addition to two halves
pub add_halves : {K : Kind} {n : ℕ} (l r : BlockOf K n) (k : ℕ) (a : K.Value) (P : SumOf K (suc n) → Type 0)
    → (ltb k (2 ^ n) ≡ true → P (join (add l k a) (fits r)))
    → (ltb k (2 ^ n) ≡ false → P (join (fits l) (add r (k - 2 ^ n) a)))
    → P (add (split l r) k a)
unfolding add
add_halves {K} {n} l r k a P f g = go (ltb k (2 ^ n)) refl
  where
    go : (b : Bool) → ltb k (2 ^ n) ≡ b → P (cond b (join (add l k a) (fits r)) (join (fits l) (add r (k - 2 ^ n) a)))
    go true e = f e
    go false e = g e

-- an addition adds its amount to the total
pub add_total_of : {K : Kind} (S : Sums K) {n : ℕ} (b : BlockOf K n) (k : ℕ) (a : K.Value) → sum_total (add b k a) ≡ K.plus (total b) a
unfolding add sum_total total
add_total_of {K} S {n} (counter v) k a = held_total K n (K.plus v a)
add_total_of {K} S (split {n} l r) k a =
    add_halves l r k a (λ x. sum_total x ≡ K.plus (K.plus (total l) (total r)) a)
    (λ e. join_total (add l k a) (fits r) ∙ rw (add_total_of S l k a) (swap S (total l) a (total r)))
    (λ e. join_total (fits l) (add r (k - 2 ^ n) a) ∙ rw (add_total_of S r (k - 2 ^ n) a) (sym (S.assoc (total l) (total r) a)))

pub add_total : {n : ℕ} (b : Block n) (k a : ℕ) → sum_total (add b k a) ≡ total b + a
add_total b k a = add_total_of ordinary_sums b k a

pub add_sound : {K : Kind} {n : ℕ} (b : BlockOf K n) (k : ℕ) (a : K.Value) → Fits b → Sound (add b k a)
unfolding add Fits Sound
add_sound {K} {n} (counter v) k a f = held_sound K n (K.plus v a)
add_sound (split {n} l r) k a f =
    add_halves l r k a Sound
    (λ e. join_sound (add l k a) (fits r) (add_sound l k a f.0) f.1)
    (λ e. join_sound (fits l) (add r (k - 2 ^ n) a) f.0 (add_sound r (k - 2 ^ n) a f.1))

-- a union adds the totals
pub unite_total_of : {K : Kind} (S : Sums K) {n : ℕ} (x y : BlockOf K n) → sum_total (unite x y) ≡ K.plus (total x) (total y)
unfolding unite sum_total total
unite_total_of {K} S {n} (counter u) y = held_total K n (K.plus u (total y))
unite_total_of {K} S (split {n} l r) (counter v) = held_total K (suc n) (K.plus (K.plus (total l) (total r)) v)
unite_total_of {K} S (split l r) (split l' r') =
    join_total (unite l l') (unite r r')
    ∙ rw (unite_total_of S l l', unite_total_of S r r') (cross S (total l) (total l') (total r) (total r'))

pub unite_total : {n : ℕ} (x y : Block n) → sum_total (unite x y) ≡ total x + total y
unite_total x y = unite_total_of ordinary_sums x y

pub unite_sound : {K : Kind} {n : ℕ} (x y : BlockOf K n) → Fits x → Fits y → Sound (unite x y)
unfolding unite Fits
unite_sound {K} {n} (counter u) y f g = held_sound K n (K.plus u (total y))
unite_sound {K} (split {n} l r) (counter v) f g = held_sound K (suc n) (K.plus (K.plus (total l) (total r)) v)
unite_sound (split l r) (split l' r') f g =
    join_sound (unite l l') (unite r r') (unite_sound l l' f.0 g.0) (unite_sound r r' f.1 g.1)

-- a sum that its level can hold is a block
pub no_over : {K : Kind} {n : ℕ} (x : SumOf K n) → Sound x → K.size (sum_total x) < K.bound n → (b : BlockOf K n) × (x ≡ fits b)
unfolding Sound sum_total
no_over (fits b) f h = (b, refl)
no_over (over s) f h = absurd (omega arith)

-- the sizes of a block's counters add up to what one counter of its level holds, and so does the total
pub sizes_lt : {K : Kind} (S : Sums K) {n : ℕ} (b : BlockOf K n) → Fits b → sizes b < K.bound n
unfolding sizes Fits
sizes_lt S (counter v) f = f
sizes_lt S (split {n} l r) f = omega (arith, S.double n, sizes_lt S l f.0, sizes_lt S r f.1)

pub size_total : {K : Kind} (S : Sums K) {n : ℕ} (b : BlockOf K n) → K.size (total b) ≤ sizes b
unfolding sizes total
size_total S (counter v) = omega arith
size_total S (split l r) = omega (arith, S.triangle (total l) (total r), size_total S l, size_total S r)

pub total_size : {K : Kind} (S : Sums K) {n : ℕ} (b : BlockOf K n) → Fits b → K.size (total b) < K.bound n
total_size S b f = omega (arith, size_total S b, sizes_lt S b f)

pub total_lt : {n : ℕ} (b : Block n) → Fits b → total b < cap n
total_lt b f = total_size ordinary_sums b f

-- numbers are their own sizes
pub sizes_total : {n : ℕ} (b : Block n) → sizes b ≡ total b
unfolding sizes total
sizes_total (counter v) = refl
sizes_total (split l r) = rw (sizes_total l, sizes_total r)
