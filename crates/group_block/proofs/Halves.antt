-- What the code passes: Sums and halves as structs, and what its functions of them do, for any kind of meter.
use Rattle.std.proofs.Common.{Result, Ok, Err}
use mathlib.Core.Path.{◌≡◌, sym, ap, ap₂, ◌∙◌}
use mathlib.Core.Bool.{true, false, and-eq-true_iff}
use Prim.Native.Nat.{ℕ, zero, suc, ◌+◌, ◌-◌, ◌*◌, ◌/◌, ◌%◌, ◌^◌, ◌≤◌, ◌<◌}
use native.Mathlib.Nat.{mod-lt}
use native.Mathlib.Numerals.{add-one, sub-one}
use native.Mathlib.Omega.{arith}
use Rattle.group_layout.specs.Layout.{marks, layout}
use Rattle.group_layout.specs.Merged.{is_merged}
use Rattle.group_layout.proofs.Laws.{above_slot, layout_marks, layout_suc, valid_marks, valid_apart}
use Rattle.group_block.specs.declared.Packed.{Packed}
use Rattle.group_block.specs.Kind.{Kind}
use Rattle.group_block.specs.Figure.{Coded}
use Rattle.group_block.specs.Block.{BlockOf, split, cap, Fits, shape, number_of, all_clean, block_as, total, sizes}
use Rattle.group_block.specs.Sum.{SumOf, fits, over, held, join, sum_total}
use Rattle.group_block.specs.Passed.{summed_as, sum_as, left_half, right_half, Sane, AptAs}
use Rattle.group_block.proofs.Adding.{Sound, total_size}
use Rattle.group_block.proofs.Laws.{cap_pos, high_lt, word_lt_of, word_clean, block_is_of, word_block_of, marks_block_of, block_suc, block_fits_of}

module _ {K : Kind} {F : Type 0} {means : F → K.Value} {made : K.Value → F} (D : Coded K means made) where
  abbrev passed : {n : ℕ} → SumOf K n → Result Packed F
  passed x = summed_as K made x

  abbrev taken : (n : ℕ) → Result Packed F → SumOf K n
  taken n s = sum_as K means n s

  -- what the code passes stands for the Sum that it was made of
  sum_is : {n : ℕ} (x : SumOf K n) → Sound x → taken n (passed x) ≡ x
  unfolding sum_as summed_as Sound
  sum_is (fits b) f = ap fits (block_is_of D.codes b f)
  sum_is (over s) f = ap over (D.means_made s)

  -- what the code's join does in each of its cases
  pub join_left : (n : ℕ) (l r : Result Packed F) (t : F) → l ≡ Err t
      → passed (held (n + 1) (K.plus (sum_total (taken n l)) (sum_total (taken n r)))) ≡ passed (join (taken n l) (taken n r))
  unfolding sum_as sum_total join
  join_left n l r t e = rw (add-one n, e)

  pub join_right : (n : ℕ) (l r : Result Packed F) (p : Packed) (t : F) → l ≡ Ok p → r ≡ Err t
      → passed (held (n + 1) (K.plus (sum_total (taken n l)) (sum_total (taken n r)))) ≡ passed (join (taken n l) (taken n r))
  unfolding sum_as sum_total join
  join_right n l r p t e f = rw (add-one n, e, f)

  pub join_both : (n : ℕ) (p q : Packed) → AptAs K {F = F} n (Ok p) → AptAs K {F = F} n (Ok q)
      → Ok (record { word = q.word * cap n + p.word; merge = q.merge * 2 ^ (2 ^ n) + p.merge }) ≡ passed (join (taken n (Ok p)) (taken n (Ok q)))
  unfolding sum_as summed_as join number_of shape marks
  join_both n p q f g =
      rw (
        word_block_of D.codes n q.word q.merge g.0.0 g.1,
        word_block_of D.codes n p.word p.merge f.0.0 f.1,
        marks_block_of K n q.word q.merge g.0.1,
        marks_block_of K n p.word p.merge f.0.1,
      )

  -- what was made of a sound Sum stands for it
  summed_apt : {n : ℕ} (x : SumOf K n) → Sound x → (s : Result Packed F) → s ≡ passed x → AptAs K n s
  unfolding summed_as Sound
  summed_apt (fits b) f s e = rw e ((word_lt_of D.codes b f, valid_marks (shape b)), rw (layout_marks (shape b)) (word_clean D.codes b f))
  summed_apt (over t) f s e = rw e tt

  summed_is : {n : ℕ} (x : SumOf K n) → Sound x → (s : Result Packed F) → s ≡ passed x → taken n s ≡ x
  summed_is {n} x f s e = ap (taken n) e ∙ sum_is x f

  -- what the code's join asks
  abbrev pub JoinAsked : ℕ → Result Packed F → Result Packed F → Type 0
  JoinAsked n s t = (n ≤ 2) × (AptAs K n s × (AptAs K n t × (K.size (sum_total (taken n s)) + K.size (sum_total (taken n t)) < 2 ^ 64)))

  module _ {n : ℕ} (x y : SumOf K n) (x-sound : Sound x) (y-sound : Sound y) (s t : Result Packed F) (s-is : s ≡ passed x) (t-is : t ≡ passed y) where
    -- what the code's join asks, and what it gives
    pub join_asks : n ≤ 2 → K.size (sum_total x) + K.size (sum_total y) < 2 ^ 64 → JoinAsked n s t
    join_asks h k = (h, (summed_apt x x-sound s s-is, (summed_apt y y-sound t t-is, rw (summed_is x x-sound s s-is, summed_is y y-sound t t-is) k)))

    pub join_gives : passed (join (taken n s) (taken n t)) ≡ passed (join x y)
    join_gives = rw (summed_is x x-sound s s-is, summed_is y y-sound t t-is)

  -- a block as the code passes it
  pub block_summed : (n : ℕ) (p : Packed) → Sane n p.word p.merge → all_clean K (layout n p.merge) p.word ≡ true
      → Ok p ≡ passed (fits (block_as K n p.word p.merge))
  unfolding summed_as
  block_summed n p h c = rw (word_block_of D.codes n p.word p.merge h.0 c, marks_block_of K n p.word p.merge h.1)

halves_in : (n w : ℕ) → 0 < n → w < cap n → (w % cap (n - 1) < cap (n - 1)) × (w / cap (n - 1) < cap (n - 1))
halves_in zero w h k = absurd (omega arith)
halves_in (suc n) w h k = rw (sub-one (suc n)) (mod-lt w (cap_pos n), high_lt n w k)

-- a block of two halves, as the code has it
pub record Apart (n w m : ℕ) (l r : Packed) : Type 0 where
  pub apart : is_merged (layout n m) ≡ false
  pub l_is : l ≡ left_half (n - 1) w m
  pub r_is : r ≡ right_half (n - 1) w m

-- the halves' counters have bits of values where the block's have
halves_clean : (K : Kind) (n w m : ℕ) → is_merged (layout n m) ≡ false → all_clean K (layout n m) w ≡ true
    → (all_clean K (layout (n - 1) (m % 2 ^ (2 ^ (n - 1)))) (w % cap (n - 1)) ≡ true)
    × (all_clean K (layout (n - 1) (m / 2 ^ (2 ^ (n - 1)))) (w / cap (n - 1)) ≡ true)
unfolding all_clean
halves_clean K zero w m e c = absurd (omega (arith, above_slot zero m e))
halves_clean K (suc n) w m e c =
    rw (sub-one (suc n))
    ((and-eq-true_iff (all_clean K (layout n (m % 2 ^ (2 ^ n))) (w % cap n)) (all_clean K (layout n (m / 2 ^ (2 ^ n))) (w / cap n))).0 (rw (layout_suc n m e) at c))

-- A function of two such blocks is one of their halves. Their level is n - 1, and n is its successor only by a proof.
pub both_apart : (K : Kind) {n w m w' m' : ℕ} {l r l' r' : Packed} → Apart n w m l r → Apart n w' m' l' r' → {A : Type 0} (f : (n : ℕ) → BlockOf K n → BlockOf K n → A)
    → f n (block_as K n w m) (block_as K n w' m')
    ≡ f (suc (n - 1)) (split (block_as K (n - 1) l.word l.merge) (block_as K (n - 1) r.word r.merge))
    (split (block_as K (n - 1) l'.word l'.merge) (block_as K (n - 1) r'.word r'.merge))
unfolding left_half right_half
both_apart K {n} {w} {m} {w'} {m'} p q f = rw (p.l_is, p.r_is, q.l_is, q.r_is) (go n p.apart q.apart)
  where
    go : (n : ℕ) → is_merged (layout n m) ≡ false → is_merged (layout n m') ≡ false
        → f n (block_as K n w m) (block_as K n w' m')
        ≡ f (suc (n - 1)) (split (block_as K (n - 1) (w % cap (n - 1)) (m % 2 ^ (2 ^ (n - 1)))) (block_as K (n - 1) (w / cap (n - 1)) (m / 2 ^ (2 ^ (n - 1)))))
        (split (block_as K (n - 1) (w' % cap (n - 1)) (m' % 2 ^ (2 ^ (n - 1)))) (block_as K (n - 1) (w' / cap (n - 1)) (m' / 2 ^ (2 ^ (n - 1)))))
    go zero e e' = absurd (omega (arith, above_slot zero m e))
    go (suc n) e e' = rw (sub-one (suc n)) (ap₂ (f (suc n)) (block_suc K n w m e) (block_suc K n w' m' e'))

module _ {n w m : ℕ} {l r : Packed} (p : Apart n w m l r) where
  pub apart_is : (K : Kind) {A : Type 0} (f : (n : ℕ) → BlockOf K n → A)
      → f n (block_as K n w m) ≡ f (suc (n - 1)) (split (block_as K (n - 1) l.word l.merge) (block_as K (n - 1) r.word r.merge))
  apart_is K f = both_apart K p p (λ n b c. f n b)

  pub words_in : w < cap n → (l.word < cap (n - 1)) × (r.word < cap (n - 1))
  unfolding left_half right_half
  words_in h = rw (p.l_is, p.r_is) (halves_in n w (above_slot n m p.apart) h)

  pub left_sane : Sane n w m → Sane (n - 1) l.word l.merge
  unfolding left_half
  left_sane h = ((words_in h.0).0, rw p.l_is (valid_apart n m p.apart h.1).0)

  pub right_sane : Sane n w m → Sane (n - 1) r.word r.merge
  unfolding right_half
  right_sane h = ((words_in h.0).1, rw p.r_is (valid_apart n m p.apart h.1).1)

  module _ {K : Kind} {F : Type 0} {means : F → K.Value} {made : K.Value → F} (D : Coded K means made) where
    pub left_clean : all_clean K (layout n m) w ≡ true → all_clean K (layout (n - 1) l.merge) l.word ≡ true
    unfolding left_half
    left_clean c = rw p.l_is (halves_clean K n w m p.apart c).0

    pub right_clean : all_clean K (layout n m) w ≡ true → all_clean K (layout (n - 1) r.merge) r.word ≡ true
    unfolding right_half
    right_clean c = rw p.r_is (halves_clean K n w m p.apart c).1

    -- the halves as sound Sums
    pub left_is : Sane n w m → all_clean K (layout n m) w ≡ true → Ok l ≡ summed_as K made (fits (block_as K (n - 1) l.word l.merge))
    left_is h c = block_summed D (n - 1) l (left_sane h) (left_clean c)

    pub right_is : Sane n w m → all_clean K (layout n m) w ≡ true → Ok r ≡ summed_as K made (fits (block_as K (n - 1) r.word r.merge))
    right_is h c = block_summed D (n - 1) r (right_sane h) (right_clean c)

    pub left_fits : w < cap n → Fits (block_as K (n - 1) l.word l.merge)
    left_fits h = block_fits_of D.codes (n - 1) l.word l.merge (words_in h).0

    pub right_fits : w < cap n → Fits (block_as K (n - 1) r.word r.merge)
    right_fits h = block_fits_of D.codes (n - 1) r.word r.merge (words_in h).1

    -- the sizes of the halves' counters make those of the block's
    pub sizes_apart : sizes (block_as K (n - 1) l.word l.merge) + sizes (block_as K (n - 1) r.word r.merge) ≡ sizes (block_as K n w m)
    unfolding sizes
    sizes_apart = sym (apart_is K (λ k b. sizes b))

    -- the halves' totals are held by counters of their level
    pub totals_in : w < cap n
        → (K.size (total (block_as K (n - 1) l.word l.merge)) < K.bound (n - 1)) × (K.size (total (block_as K (n - 1) r.word r.merge)) < K.bound (n - 1))
    totals_in h =
        (total_size D.sums (block_as K (n - 1) l.word l.merge) (left_fits h), total_size D.sums (block_as K (n - 1) r.word r.merge) (right_fits h))

    -- and make the block's
    pub total_apart : K.plus (total (block_as K (n - 1) l.word l.merge)) (total (block_as K (n - 1) r.word r.merge)) ≡ total (block_as K n w m)
    unfolding total
    total_apart = sym (apart_is K (λ k b. total b))
