-- Laws of the traffic's totals and of L.
use mathlib.Core.Path.{◌≡◌, refl, sym, ap, ◌∙◌}
use mathlib.Core.Logic.{⊎_elim}
use mathlib.Core.Bool.{Bool, true, false, cond, true≢false, or-true}
use mathlib.Core.List.{List, [], ◌∷◌, ◌++◌}
use Prim.Native.Nat.{ℕ, zero, suc, ◌+◌, ◌-◌, ◌*◌, ◌/◌, ◌^◌, ◌≤◌, ◌<◌}
use native.Mathlib.Decide.{ℕ_discrete}
use native.Mathlib.Omega.{arith}
use borrow.Author.Tests.{leb-true, le-leb, eqb-true, eq-eqb, ne_eqb}
use lib.Dec.{leb, eqb}
use lib.Pow.{shr-shr}
use Rattle.laws.proofs.Tests.{or_cases}
use Rattle.group_block.specs.Kind.{ordinary}
use Rattle.group_block.specs.Block.{cap}
use Rattle.group_block_laws.specs.Counts.{Adds}
use Rattle.group_block_laws.proofs.Sides.{half}
use Rattle.hash.specs.Hash.{basis}
use Rattle.meter_keys.specs.Keys.{key_slot, same_key}
use Rattle.meter_keys.proofs.Same.{same_key_lem}
use Rattle.traffic.specs.Traffic.{Pair, amount_sum, key_total, block_of, block_total, any_below, overflows, level_up_to}

pub sum_append : (f : List ℕ → Bool) (xs ys : List Pair) → amount_sum f (xs ++ ys) ≡ amount_sum f xs + amount_sum f ys
unfolding amount_sum
sum_append f [] ys = omega arith
sum_append f (p ∷ xs) ys = omega (arith, sum_append f xs ys)

-- a test that is two others, never both
sum_split : (f g h : List ℕ → Bool) → ((key : List ℕ) (a : ℕ) → cond (f key) a 0 ≡ cond (g key) a 0 + cond (h key) a 0)
    → (ps : List Pair) → amount_sum f ps ≡ amount_sum g ps + amount_sum h ps
unfolding amount_sum
sum_split f g h e [] = refl
sum_split f g h e (p ∷ ps) = omega (arith, e p.key p.amount, sum_split f g h e ps)

-- a test that passes more
sum_mono : (f g : List ℕ → Bool) → ((key : List ℕ) → f key ≡ true → g key ≡ true) → (ps : List Pair) → amount_sum f ps ≤ amount_sum g ps
unfolding amount_sum
sum_mono f g h [] = omega arith
sum_mono f g h (p ∷ ps) = omega (arith, one (f p.key) (g p.key) (h p.key), sum_mono f g h ps)
  where
    one : (b c : Bool) → (b ≡ true → c ≡ true) → cond b p.amount 0 ≤ cond c p.amount 0
    one true c e = rw (e refl) (omega arith)
    one false c e = omega arith

-- a block's total is the sum of its halves'
either_half : (x i a : ℕ) → cond (eqb (x / 2) i) a 0 ≡ cond (eqb x (2 * i)) a 0 + cond (eqb x (2 * i + 1)) a 0
either_half x i a =
    elim (ℕ_discrete (x / 2) i) [
      | yes e ↦ elim (ℕ_discrete x (2 * i)) [
        | yes l ↦ rw (eq-eqb (x / 2) i e, eq-eqb x (2 * i) l, ne_eqb x (2 * i + 1) (λ z. omega arith)) (omega arith)
        | no l ↦ rw (eq-eqb (x / 2) i e, ne_eqb x (2 * i) l, eq-eqb x (2 * i + 1) (omega arith)) (omega arith)
      ]
      | no e ↦ rw (ne_eqb (x / 2) i e, ne_eqb x (2 * i) (λ z. e (omega arith)), ne_eqb x (2 * i + 1) (λ z. e (omega arith)))
    ]

-- slots in one block are in one larger block
up : (x s m n : ℕ) → m ≤ n → x / 2 ^ m ≡ s / 2 ^ m → x / 2 ^ n ≡ s / 2 ^ n
up x s m n h e =
    let f : n ≡ m + (n - m) = omega arith in
    rw f (sym (shr-shr x m (n - m)) ∙ ap (λ (y : ℕ). y / 2 ^ (n - m)) e ∙ shr-shr s m (n - m))

module _ (w r : ℕ) where
  pub totals_add : (ps : List Pair) → Adds ordinary (block_total w r ps)
  unfolding block_total block_of
  totals_add ps n i =
      sum_split (λ key. eqb (block_of w r (suc n) key) i) (λ key. eqb (block_of w r n key) (2 * i)) (λ key. eqb (block_of w r n key) (2 * i + 1))
      (λ key a. rw (half (key_slot basis w key r) n) (either_half (key_slot basis w key r / 2 ^ n) i a)) ps

  -- one pair more, and two traffics together
  pub totals_more : (p : Pair) (ps : List Pair) (n i : ℕ) → block_total w r (p ∷ ps) n i ≡ cond (eqb (key_slot basis w p.key r / 2 ^ n) i) p.amount 0 + block_total w r ps n i
  unfolding block_total block_of amount_sum
  totals_more p ps n i = refl

  pub totals_append : (ps qs : List Pair) (n i : ℕ) → block_total w r (ps ++ qs) n i ≡ block_total w r ps n i + block_total w r qs n i
  unfolding block_total
  totals_append ps qs n i = sum_append (λ key. eqb (block_of w r n key) i) ps qs

  -- a key's total is at most that of a block that the key lands in
  pub key_le : (ps : List Pair) (key : List ℕ) (n : ℕ) → key_total key ps ≤ block_total w r ps n (key_slot basis w key r / 2 ^ n)
  unfolding key_total block_total block_of
  key_le ps key n = sum_mono (same_key key) (λ k. eqb (block_of w r n k) (key_slot basis w key r / 2 ^ n)) (λ k e. rw (← same_key_lem key k e) (eq-eqb (key_slot basis w key r / 2 ^ n) (key_slot basis w key r / 2 ^ n) refl)) ps

  -- a larger block around a slot has a larger total
  pub wider_le : (ps : List Pair) (s m n : ℕ) → m ≤ n → block_total w r ps m (s / 2 ^ m) ≤ block_total w r ps n (s / 2 ^ n)
  unfolding block_total block_of
  wider_le ps s m n h =
      sum_mono (λ k. eqb (block_of w r m k) (s / 2 ^ m)) (λ k. eqb (block_of w r n k) (s / 2 ^ n))
      (λ k e. eq-eqb _ _ (up (key_slot basis w k r) s m n h (eqb-true _ _ e))) ps

-- a number below n that passes a test
pub any_some : (n : ℕ) (test : ℕ → Bool) → any_below n test ≡ true → (k : ℕ) × (k < n) × (test k ≡ true)
unfolding any_below
any_some zero test e = absurd (true≢false (sym e))
any_some (suc n) test e =
    ⊎_elim (λ h. (n, omega arith, h)) (λ h. let r = any_some n test h in (r.0, omega (arith, r.1), r.2)) (or_cases (test n) (any_below n test) e)

pub some_any : (n : ℕ) (test : ℕ → Bool) (k : ℕ) → k < n → test k ≡ true → any_below n test ≡ true
unfolding any_below
some_any zero test k h e = absurd (omega arith)
some_any (suc n) test k h e =
    elim (ℕ_discrete k n) [ yes z ↦ rw (← z, e) | no z ↦ rw (some_any n test k (omega arith) e) (or-true (test n)) ]

-- an overflowing block
pub record Overflow (d w : ℕ) (ps : List Pair) (n : ℕ) : Type 0 where
  pub row : ℕ
  pub index : ℕ
  pub row_in : row < d
  pub index_in : index < w / 2 ^ n
  pub large : cap n ≤ block_total w row ps n index

module _ (d w : ℕ) (ps : List Pair) where
  pub overflow_some : (n : ℕ) → overflows d w ps n ≡ true → Overflow d w ps n
  unfolding overflows
  overflow_some n e =
      let r = any_some d (λ r. any_below (w / 2 ^ n) (λ i. leb (cap n) (block_total w r ps n i))) e in
      let i = any_some (w / 2 ^ n) (λ i. leb (cap n) (block_total w r.0 ps n i)) r.2 in
      record { row = r.0; index = i.0; row_in = r.1; index_in = i.1; large = leb-true _ _ i.2 }

  pub some_overflow : (n : ℕ) → Overflow d w ps n → overflows d w ps n ≡ true
  unfolding overflows
  some_overflow n o =
      some_any d (λ r. any_below (w / 2 ^ n) (λ i. leb (cap n) (block_total w r ps n i))) o.row o.row_in
      (some_any (w / 2 ^ n) (λ i. leb (cap n) (block_total w o.row ps n i)) o.index o.index_in (le-leb _ _ o.large))

  -- L is at least every level above an overflow, and is 0 or a level above one
  pub level_least : (m n : ℕ) → n < m → overflows d w ps n ≡ true → suc n ≤ level_up_to d w ps m
  unfolding level_up_to
  level_least zero n h e = absurd (omega arith)
  level_least (suc m) n h e =
      elim (ℕ_discrete n m) [
        | yes z ↦ rw (← z, e) (omega arith)
        | no z ↦ go (overflows d w ps m) (level_least m n (omega arith) e)
      ]
    where
      go : (b : Bool) → suc n ≤ level_up_to d w ps m → suc n ≤ cond b (suc m) (level_up_to d w ps m)
      go true l = h
      go false l = l

  pub level_cause : (m n : ℕ) → level_up_to d w ps m ≡ suc n → (n < m) × (overflows d w ps n ≡ true)
  unfolding level_up_to
  level_cause zero n e = absurd (omega arith)
  level_cause (suc m) n e = go (overflows d w ps m) refl e (level_cause m n)
    where
      go : (b : Bool) → overflows d w ps m ≡ b → cond b (suc m) (level_up_to d w ps m) ≡ suc n
          → (level_up_to d w ps m ≡ suc n → (n < m) × (overflows d w ps n ≡ true)) → (n < suc m) × (overflows d w ps n ≡ true)
      go true o e f =
          let z : n ≡ m = omega arith in
          rw z (omega arith, o)
      go false o e f = let x = f e in (omega (arith, x.0), x.1)
