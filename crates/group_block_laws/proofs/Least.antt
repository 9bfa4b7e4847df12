-- The layout of a union is the least that suits both blocks, for any level.
use mathlib.Core.Path.{◌≡◌, refl, ap₂}
use Prim.Native.Nat.{ℕ, suc, ◌+◌, ◌<◌}
use native.Mathlib.Omega.{arith}
use Rattle.group_layout.specs.Layout.{Layout, merged, halves}
use Rattle.group_block.specs.Kind.{Kind}
use Rattle.group_block.specs.Block.{BlockOf, Block, counter, split, cap, shape, total}
use Rattle.group_block.specs.Sum.{SumOf, fits, over, held, join, unite, sum_total}
use Rattle.group_block_laws.specs.Least.{Inside, Suits, Least}
use Rattle.group_block.proofs.Sums.{Sums, ordinary_sums, cross}
use Rattle.group_block.proofs.Adding.{held_cases, unite_total_of}

-- a layout that suits merges all that either block merged
pub suits_merges : {K : Kind} {n : ℕ} (L : Layout n) (x y : BlockOf K n) → Suits L x y → Inside (shape x) L × Inside (shape y) L
unfolding Suits Inside shape
suits_merges merged x y s = (tt, tt)
suits_merges (halves l r) (counter u) y s = absurd s
suits_merges (halves l r) (split a b) (counter v) s = absurd s
suits_merges (halves l r) (split a b) (split c d) s =
    let p = suits_merges l a c s.0 in
    let q = suits_merges r b d s.1 in
    ((p.0, q.0), (p.1, q.1))

-- blocks that a layout suits fit one counter too
pub suits_fit_of : {K : Kind} (S : Sums K) {n : ℕ} (L : Layout n) (x y : BlockOf K n) → Suits L x y → K.size (K.plus (total x) (total y)) < K.bound n
unfolding Suits total
suits_fit_of S merged x y s = s
suits_fit_of S (halves l r) (counter u) y s = absurd s
suits_fit_of S (halves l r) (split a b) (counter v) s = absurd s
suits_fit_of {K} S (halves {n} l r) (split a b) (split c d) s =
    rw (← cross S (total a) (total c) (total b) (total d))
    (omega (arith, S.double n, suits_fit_of S l a c s.0, suits_fit_of S r b d s.1, S.triangle (K.plus (total a) (total c)) (K.plus (total b) (total d))))

pub suits_fit : {n : ℕ} (L : Layout n) (x y : Block n) → Suits L x y → total x + total y < cap n
suits_fit L x y s = suits_fit_of ordinary_sums L x y s

-- one counter is the least where every layout that suits is merged
held_least : {K : Kind} (S : Sums K) {n : ℕ} (x y : BlockOf K n) (t : K.Value) → t ≡ K.plus (total x) (total y) → ((L : Layout n) → Suits L x y → Inside merged L)
    → Least x y (held n t)
unfolding Least Suits shape
held_least {K} S {n} x y t e m =
    held_cases n t (Least x y) (λ h. (rw (← e) h, m)) (λ h L s. omega (arith, rw (← e) at (suits_fit_of S L x y s)))

join_least : {K : Kind} (S : Sums K) {n : ℕ} (a b c d : BlockOf K n) (x y : SumOf K n) → Least a c x → Least b d y
    → sum_total x ≡ K.plus (total a) (total c) → sum_total y ≡ K.plus (total b) (total d)
    → Least (split a b) (split c d) (join x y)
unfolding Least Suits Inside join shape total sum_total
join_least S a b c d (fits l) (fits r) p q e f = ((p.0, q.0), go)
  where
    go : (L : Layout _) → Suits L (split a b) (split c d) → Inside (halves (shape l) (shape r)) L
    go merged s = tt
    go (halves l' r') s = (p.1 l' s.0, q.1 r' s.1)
join_least {K} S a b c d (fits l) (over t) p q e f = held_least S (split a b) (split c d) (K.plus (total l) t) (rw (e, f) (cross S (total a) (total c) (total b) (total d))) go
  where
    go : (L : Layout _) → Suits L (split a b) (split c d) → Inside merged L
    go merged s = tt
    go (halves l' r') s = q r' s.1
join_least {K} S a b c d (over t) y p q e f = held_least S (split a b) (split c d) (K.plus t (sum_total y)) (rw (e, f) (cross S (total a) (total c) (total b) (total d))) go
  where
    go : (L : Layout _) → Suits L (split a b) (split c d) → Inside merged L
    go merged s = tt
    go (halves l' r') s = p l' s.0

-- where either block is one counter, so is every layout that suits
merged_left : {K : Kind} {n : ℕ} (u : K.Value) (y : BlockOf K n) (L : Layout n) → Suits L (counter u) y → Inside merged L
unfolding Suits Inside
merged_left u y merged s = tt
merged_left u y (halves l r) s = absurd s

merged_right : {K : Kind} {n : ℕ} (l r : BlockOf K n) (v : K.Value) (L : Layout (suc n)) → Suits L (split l r) (counter v) → Inside merged L
unfolding Suits Inside
merged_right l r v merged s = tt
merged_right l r v (halves l' r') s = absurd s

pub unite_least_of : {K : Kind} (S : Sums K) {n : ℕ} (x y : BlockOf K n) → Least x y (unite x y)
unfolding unite total
unite_least_of {K} S {n} (counter u) y = held_least S (counter u) y (K.plus u (total y)) refl (merged_left u y)
unite_least_of {K} S (split {n} l r) (counter v) = held_least S (split l r) (counter v) (K.plus (K.plus (total l) (total r)) v) refl (merged_right l r v)
unite_least_of S (split a b) (split c d) =
    join_least S a b c d (unite a c) (unite b d) (unite_least_of S a c) (unite_least_of S b d) (unite_total_of S a c) (unite_total_of S b d)

pub unite_least : {n : ℕ} (x y : Block n) → Least x y (unite x y)
unite_least x y = unite_least_of ordinary_sums x y

inside_same : {n : ℕ} (L M : Layout n) → Inside L M → Inside M L → L ≡ M
unfolding Inside
inside_same merged merged p q = refl
inside_same merged (halves l r) p q = absurd p
inside_same (halves l r) merged p q = absurd q
inside_same (halves l r) (halves l' r') p q = ap₂ halves (inside_same l l' p.0 q.0) (inside_same r r' p.1 q.1)

-- a union that the first block's counters can hold keeps its layout
pub unite_stays_of : {K : Kind} (S : Sums K) {n : ℕ} (x y : BlockOf K n) → Suits (shape x) x y → (z : BlockOf K n) × (unite x y ≡ fits z) × (shape z ≡ shape x)
unfolding Least
unite_stays_of {K} S {n} x y s = go (unite x y) refl (unite_least_of S x y)
  where
    go : (w : SumOf K n) → unite x y ≡ w → Least x y w → (z : BlockOf K n) × (unite x y ≡ fits z) × (shape z ≡ shape x)
    go (fits z) e l = (z, e, inside_same (shape z) (shape x) (l.1 (shape x) s) (suits_merges (shape z) x y l.0).0)
    go (over t) e l = absurd (l (shape x) s)

pub unite_stays : {n : ℕ} (x y : Block n) → Suits (shape x) x y → (z : Block n) × (unite x y ≡ fits z) × (shape z ≡ shape x)
unite_stays x y s = unite_stays_of ordinary_sums x y s
