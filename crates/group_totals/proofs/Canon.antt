-- The block that totals leave, whatever the order of the additions and unions that made them up, for any level: what adding and uniting
-- do to it, and what its counters are. `t n i` is the total of block i of level n.
use mathlib.Core.Path.{◌≡◌, refl, sym, ap, ◌∙◌}
use mathlib.Core.Bool.{Bool, true, false, cond, ◌&&◌}
use Prim.Native.Nat.{ℕ, zero, suc, ◌+◌, ◌-◌, ◌*◌, ◌/◌, ◌%◌, ◌^◌, ◌≤◌, ◌<◌}
use mathlib.Core.Logic.{⊎_elim}
use native.Mathlib.Decide.{dec_lt, ℕ_discrete}
use native.Mathlib.Omega.{arith}
use borrow.Table.Steps.{cases}
use borrow.Author.Tests.{lt-ltb, le-ltb, ltb-true, eq-eqb, ne_eqb}
use lib.Dec.{ltb, eqb}
use Rattle.group_layout.specs.Layout.{widest_in}
use Rattle.group_block.specs.Kind.{ordinary}
use Rattle.group_block.specs.Block.{Block, counter, split, cap, Fits, shape, counter_at, total}
use Rattle.group_block.specs.Sum.{Sum, fits, over, sum_total, held, join, add, unite}
use Rattle.group_block_laws.specs.Counts.{Adds, Counts}
use Rattle.group_block.proofs.Laws.{cap_double}
use Rattle.group_block_laws.proofs.Sides.{half, by_half}
use Rattle.group_block_laws.proofs.Counting.{total_counts, value_counts, counter_at_lem}

-- whether a counter of level n holds the total of block i of that level; `totals n i` is that total
unfoldable pub small : (ℕ → ℕ → ℕ) → ℕ → ℕ → Bool
small totals n i = ltb (totals n i) (cap n)

-- Block i of level n: one counter exactly where a half is too large. Its halves are blocks 2 × i and 2 × i + 1 of the level below.
unfoldable pub canon : (ℕ → ℕ → ℕ) → (n : ℕ) → ℕ → Block n
canon totals zero i = counter (totals 0 i)
canon totals (suc n) i =
    cond (small totals n (2 * i) && small totals n (2 * i + 1)) (split (canon totals n (2 * i)) (canon totals n (2 * i + 1))) (counter (totals (suc n) i))

-- a half is too large
abbrev pub Large : (ℕ → ℕ → ℕ) → ℕ → ℕ → Type 0
Large t n i = t n (2 * i) < cap n → t n (2 * i + 1) < cap n → ⊥

-- totals that agree leave the same block
pub canon_same : (t u : ℕ → ℕ → ℕ) → ((n i : ℕ) → t n i ≡ u n i) → (n i : ℕ) → canon t n i ≡ canon u n i
unfolding canon small
canon_same t u e zero i = ap counter (e 0 i)
canon_same t u e (suc n) i =
    rw (e n (2 * i), e n (2 * i + 1), e (suc n) i, canon_same t u e n (2 * i), canon_same t u e n (2 * i + 1))

-- what an addition or a union should leave of a block with these totals
unfoldable pub canon_sum : (ℕ → ℕ → ℕ) → (n : ℕ) → ℕ → Sum n
canon_sum t n i = cond (small t n i) (fits (canon t n i)) (over (t n i))

module _ (t : ℕ → ℕ → ℕ) where
  canon_split : (n i : ℕ) → t n (2 * i) < cap n → t n (2 * i + 1) < cap n → canon t (suc n) i ≡ split (canon t n (2 * i)) (canon t n (2 * i + 1))
  unfolding canon small
  canon_split n i p q = rw (lt-ltb (t n (2 * i)) (cap n) p, lt-ltb (t n (2 * i + 1)) (cap n) q)

  canon_merged : (n i : ℕ) → Large t n i → canon t (suc n) i ≡ counter (t (suc n) i)
  unfolding canon small
  canon_merged n i h = go (ltb (t n (2 * i)) (cap n)) (ltb (t n (2 * i + 1)) (cap n)) refl refl
    where
      go : (a b : Bool) → ltb (t n (2 * i)) (cap n) ≡ a → ltb (t n (2 * i + 1)) (cap n) ≡ b
          → cond (a && b) (split (canon t n (2 * i)) (canon t n (2 * i + 1))) (counter (t (suc n) i)) ≡ counter (t (suc n) i)
      go true true e f = absurd (h (ltb-true (t n (2 * i)) (cap n) e) (ltb-true (t n (2 * i + 1)) (cap n) f))
      go true false e f = refl
      go false b e f = refl

  -- the two cases of a block above level 0
  pub canon_cases : (n i : ℕ) (P : Block (suc n) → Type 0)
      → (t n (2 * i) < cap n → t n (2 * i + 1) < cap n → P (split (canon t n (2 * i)) (canon t n (2 * i + 1))))
      → (Large t n i → P (counter (t (suc n) i)))
      → P (canon t (suc n) i)
  canon_cases n i P f g =
      elim (dec_lt (t n (2 * i)) (cap n)) [
        | yes p ↦ elim (dec_lt (t n (2 * i + 1)) (cap n)) [
          | yes q ↦ rw (canon_split n i p q) (f p q)
          | no q ↦ rw (canon_merged n i (λ p q'. q q')) (g (λ p q'. q q'))
        ]
        | no p ↦ rw (canon_merged n i (λ p' q. p p')) (g (λ p' q. p p'))
      ]

  -- the two cases of what an addition leaves
  sum_fits : (n i : ℕ) → t n i < cap n → canon_sum t n i ≡ fits (canon t n i)
  unfolding canon_sum small
  sum_fits n i p = rw (lt-ltb (t n i) (cap n) p)

  sum_over : (n i : ℕ) → cap n ≤ t n i → canon_sum t n i ≡ over (t n i)
  unfolding canon_sum small
  sum_over n i p = rw (le-ltb (t n i) (cap n) p)

  pub sum_cases : (n i : ℕ) (P : Sum n → Type 0) → (t n i < cap n → P (fits (canon t n i))) → (cap n ≤ t n i → P (over (t n i))) → P (canon_sum t n i)
  sum_cases n i P f g = elim (dec_lt (t n i) (cap n)) [
    | yes p ↦ rw (sum_fits n i p) (f p)
    | no p ↦ rw (sum_over n i (omega arith)) (g (omega arith))
  ]

  -- a merged block is one counter, or over
  sum_merged : (n i : ℕ) → Large t n i → canon_sum t (suc n) i ≡ held {K = ordinary} (suc n) (t (suc n) i)
  unfolding canon_sum small held
  sum_merged n i h = rw (canon_merged n i h)

  -- every counter holds its value
  pub canon_fits : (n i : ℕ) → t n i < cap n → Fits (canon t n i)
  unfolding canon Fits
  canon_fits zero i h = h
  canon_fits (suc n) i h = canon_cases n i Fits (λ p q. (canon_fits n (2 * i) p, canon_fits n (2 * i + 1) q)) (λ l. h)

  -- and the total of its block
  canon_counts : (n i : ℕ) → Counts t i (canon t n i)
  unfolding canon Counts
  canon_counts zero i = refl
  canon_counts (suc n) i = canon_cases n i (Counts t i) (λ p q. (canon_counts n (2 * i), canon_counts n (2 * i + 1))) (λ l. refl)

  module _ (adds : Adds ordinary t) where
    canon_total : (n i : ℕ) → total (canon t n i) ≡ t n i
    canon_total n i = total_counts ordinary t adds i (canon t n i) (canon_counts n i)

    sum_total_lem : (n i : ℕ) → sum_total (canon_sum t n i) ≡ t n i
    unfolding sum_total
    sum_total_lem n i = sum_cases n i (λ x. sum_total x ≡ t n i) (λ p. canon_total n i) (λ p. refl)

    -- two halves joined
    pub join_canon : (n i : ℕ) → join (canon_sum t n (2 * i)) (canon_sum t n (2 * i + 1)) ≡ canon_sum t (suc n) i
    unfolding join
    join_canon n i =
        elim (dec_lt (t n (2 * i)) (cap n)) [
          | yes p ↦ elim (dec_lt (t n (2 * i + 1)) (cap n)) [
            | yes q ↦
                rw (sum_fits n (2 * i) p, sum_fits n (2 * i + 1) q, sum_fits (suc n) i (omega (arith, cap_double n, adds n i)))
                (ap fits (sym (canon_split n i p q)))
            | no q ↦
                rw (sum_fits n (2 * i) p, sum_over n (2 * i + 1) (omega arith), sum_merged n i (λ p q'. q q'), canon_total n (2 * i), adds n i)
          ]
          | no p ↦ rw (sum_over n (2 * i) (omega arith), sum_merged n i (λ p' q. p p'), sum_total_lem n (2 * i + 1), adds n i)
        ]

-- an amount more at a slot
module _ (t t' : ℕ → ℕ → ℕ) (adds' : Adds ordinary t') (s a : ℕ) (plus : (n i : ℕ) → t' n i ≡ cond (eqb (s / 2 ^ n) i) a 0 + t n i) where
  plus_at : (n i : ℕ) → s / 2 ^ n ≡ i → t' n i ≡ t n i + a
  plus_at n i e = plus n i ∙ rw (eq-eqb (s / 2 ^ n) i e) (omega arith)

  pub plus_off : (n i : ℕ) → (s / 2 ^ n ≡ i → ⊥) → t' n i ≡ t n i
  plus_off n i e = plus n i ∙ rw (ne_eqb (s / 2 ^ n) i e) (omega arith)

  plus_more : (n i : ℕ) → t n i ≤ t' n i
  plus_more n i = omega (arith, plus n i)

  -- a block that the slot is not in
  pub canon_off : (n i : ℕ) → (s / 2 ^ n ≡ i → ⊥) → canon t' n i ≡ canon t n i
  unfolding canon small
  canon_off zero i e = ap counter (plus_off 0 i e)
  canon_off (suc n) i e =
      let l : s / 2 ^ n ≡ 2 * i → ⊥ = λ h. e (half s n ∙ omega arith) in
      let r : s / 2 ^ n ≡ 2 * i + 1 → ⊥ = λ h. e (half s n ∙ omega arith) in
      rw (plus_off n (2 * i) l, plus_off n (2 * i + 1) r, canon_off n (2 * i) l, canon_off n (2 * i + 1) r, plus_off (suc n) i e)

  sum_off : (n i : ℕ) → (s / 2 ^ n ≡ i → ⊥) → t n i < cap n → fits (canon t n i) ≡ canon_sum t' n i
  sum_off n i e p = rw (sum_fits t' n i (omega (arith, plus_off n i e)), canon_off n i e)

  -- an addition to the block with the old totals leaves the block with the new, or is over exactly where the new total is
  pub add_canon : (n i : ℕ) → s / 2 ^ n ≡ i → add (canon t n i) (s % 2 ^ n) a ≡ canon_sum t' n i
  unfolding add canon canon_sum small held
  add_canon zero i e = rw (plus_at 0 i e)
  add_canon (suc n) i e =
      canon_cases t n i (λ b. add b (s % 2 ^ suc n) a ≡ canon_sum t' (suc n) i)
      (λ p q. ⊎_elim
      (λ x.
      rw (x.test, x.place, add_canon n (2 * i) x.is, sum_off n (2 * i + 1) (λ h. omega (arith, x.is)) q) (join_canon t' adds' n i))
      (λ x. rw (x.test, x.place, add_canon n (2 * i + 1) x.is, sum_off n (2 * i) (λ h. omega (arith, x.is)) p) (join_canon t' adds' n i))
      (by_half s n i e))
      (λ l. rw (← plus_at (suc n) i e)
      (sym (sum_merged t' n i (λ p q. l (omega (arith, plus_more n (2 * i))) (omega (arith, plus_more n (2 * i + 1)))))))

-- the sums of two totals
module _ (t u v : ℕ → ℕ → ℕ) (adds-t : Adds ordinary t) (adds-u : Adds ordinary u) (adds-v : Adds ordinary v) (sum : (n i : ℕ) → v n i ≡ t n i + u n i) where
  -- a union of blocks with these totals leaves the block with the sums, or is over exactly where the sum is
  pub unite_canon : (n i : ℕ) → unite (canon t n i) (canon u n i) ≡ canon_sum v n i
  unfolding unite canon canon_sum small held total
  unite_canon zero i = rw (sum 0 i)
  unite_canon (suc n) i =
      canon_cases t n i (λ b. unite b (canon u (suc n) i) ≡ canon_sum v (suc n) i)
      (λ p q. canon_cases u n i (λ b. unite (split (canon t n (2 * i)) (canon t n (2 * i + 1))) b ≡ canon_sum v (suc n) i)
      (λ p' q'. rw (unite_canon n (2 * i), unite_canon n (2 * i + 1)) (join_canon v adds-v n i))
      (λ l. rw (canon_total t adds-t n (2 * i), canon_total t adds-t n (2 * i + 1), ← adds-t n i, ← sum (suc n) i)
      (sym (sum_merged v n i (λ x y. l (omega (arith, sum n (2 * i))) (omega (arith, sum n (2 * i + 1))))))))
      (λ l. rw (canon_total u adds-u (suc n) i, ← sum (suc n) i)
      (sym (sum_merged v n i (λ x y. l (omega (arith, sum n (2 * i))) (omega (arith, sum n (2 * i + 1)))))))

module _ (t : ℕ → ℕ → ℕ) where
  -- a slot's counter holds the total of the block of its level that the slot is in
  pub counter_is : (n i s : ℕ) → s / 2 ^ n ≡ i
      → (counter_at (canon t n i) (s % 2 ^ n)).value ≡ t (counter_at (canon t n i) (s % 2 ^ n)).level (s / 2 ^ (counter_at (canon t n i) (s % 2 ^ n)).level)
  counter_is n i s e = rw (counter_at_lem (canon t n i) (s % 2 ^ n)) (value_counts ordinary t i s (canon t n i) e (canon_counts t n i))

  -- a counter above level 0 has a half that is too large
  pub record Cause (w j : ℕ) : Type 0 where
    pub index : ℕ
    pub inside : (index + 1) * 2 ^ j ≤ w
    pub large : cap j ≤ t j index

  pub widest_cause : (n i j w : ℕ) → (i + 1) * 2 ^ n ≤ w → widest_in (shape (canon t n i)) ≡ suc j → Cause w j
  unfolding canon shape widest_in
  widest_cause zero i j w b = λ e. absurd (omega arith)
  widest_cause (suc n) i j w b =
      let double : 2 ^ suc n ≡ 2 * 2 ^ n = omega arith in
      let twice : (i + 1) * 2 ^ suc n ≡ 2 * ((i + 1) * 2 ^ n) = ap (λ (x : ℕ). (i + 1) * x) double ∙ omega arith in
      let lb : (2 * i + 1) * 2 ^ n ≤ w = omega arith in
      let rb : (2 * i + 1 + 1) * 2 ^ n ≤ w = omega arith in
      canon_cases t n i (λ x. widest_in (shape x) ≡ suc j → Cause w j)
      (λ p q e. elim (ℕ_discrete (widest_in (shape (canon t n (2 * i)))) (suc j)) [
        | yes f ↦ widest_cause n (2 * i) j w lb f
        | no f ↦ widest_cause n (2 * i + 1) j w rb (omega arith)
      ])
      (λ l e.
      let same : j ≡ n = omega arith in
      rw same
      (elim (dec_lt (t n (2 * i)) (cap n)) [
        | yes p ↦ record { index = 2 * i + 1; inside = rb; large = elim (dec_lt (t n (2 * i + 1)) (cap n)) [ yes q ↦ absurd (l p q) | no q ↦ omega arith ] }
        | no p ↦ record { index = 2 * i; inside = lb; large = omega arith }
      ]))

  -- a block that is too large for its level has a wider counter around it
  pub wider : (n s j : ℕ) → j < n → cap j ≤ t j (s / 2 ^ j) → suc j ≤ widest_in (shape (canon t n (s / 2 ^ n)))
  unfolding shape widest_in
  wider zero s j h l = absurd (omega arith)
  wider (suc n) s j h l =
      canon_cases t n (s / 2 ^ suc n) (λ x. suc j ≤ widest_in (shape x))
      (λ p q.
      elim (ℕ_discrete j n) [
        | yes e ↦ ⊎_elim
            (λ x. absurd (omega (arith, rw (e, x.is) at l)))
            (λ x. absurd (omega (arith, rw (e, x.is) at l)))
            (by_half s n (s / 2 ^ suc n) refl)
        | no e ↦ ⊎_elim
            (λ x. omega (arith, rw x.is at (wider n s j (omega arith) l)))
            (λ x. omega (arith, rw x.is at (wider n s j (omega arith) l)))
            (by_half s n (s / 2 ^ suc n) refl)
      ])
      (λ l. h)

-- a counter's level is at most the widest
pub level_le : {n : ℕ} (b : Block n) (k : ℕ) → (counter_at b k).level ≤ widest_in (shape b)
unfolding counter_at shape widest_in
level_le (counter v) k = omega arith
level_le (split {n} l r) k =
    cases (ltb k (2 ^ n)) (λ e. rw e (omega (arith, level_le l k))) (λ e. rw e (omega (arith, level_le r (k - 2 ^ n))))
