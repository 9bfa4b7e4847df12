-- Laws of an operation on the groups of two rows, one by one and in runs.
use mathlib.Core.Path.{◌≡◌, refl, ap, ◌∙◌}
use mathlib.Core.List.{List}
use Prim.Native.Nat.{ℕ, zero, suc, ◌+◌, ◌-◌, ◌*◌, ◌≤◌, ◌<◌}
use native.Mathlib.Decide.{dec_lt}
use native.Mathlib.Omega.{arith}
use lib.ListN.{length, get_or}
use Rattle.group.specs.declared.Group.{Group}
use Rattle.group.specs.Results.{Outcome}
use Rattle.meter_memory.specs.Rows.{group_at, with_group}
use Rattle.meter_memory.specs.Pairs.{paired_at, pair_groups}
use Rattle.meter_memory.proofs.Groups.{length_with, group_same, group_other, eight_at}

module _ (f : Group → Group → Outcome) (w : ℕ) (source : List ℕ) where
  pub pair_turn : (row : List ℕ) (n g : ℕ) → g < n
      → pair_groups f w source (n - (g + 1)) (g + 1) (with_group w row g (paired_at f w source row g).group) ≡ pair_groups f w source (n - g) g row
  unfolding pair_groups
  pair_turn row n g h =
      let e : n - g ≡ suc (n - (g + 1)) = omega arith in
      rw e

  pub pair_run : (k : ℕ) (row : List ℕ) (n g : ℕ) → g + k ≤ n → pair_groups f w source (n - (g + k)) (g + k) (pair_groups f w source k g row) ≡ pair_groups f w source (n - g) g row
  unfolding pair_groups
  pair_run zero row n g h =
      let e : g + 0 ≡ g = omega arith in
      rw e
  pair_run (suc k) row n g h =
      let e : g + suc k ≡ g + 1 + k = omega arith in
      rw e (pair_run k (with_group w row g (paired_at f w source row g).group) n (g + 1) (omega arith) ∙ pair_turn row n g (omega arith))

  pub pair_end : (row : List ℕ) (n g : ℕ) → n ≤ g → pair_groups f w source (n - g) g row ≡ row
  unfolding pair_groups
  pair_end row n g h =
      let e : n - g ≡ 0 = omega arith in
      rw e

  -- where the operation leaves eight count bytes
  module _ (eight : (x y : Group) → length x.counts ≡ 8 → length (f x y).group.counts ≡ 8) where
    eights : (row : List ℕ) (g : ℕ) → 8 * g + 8 ≤ w → w ≤ length row → length (paired_at f w source row g).group.counts ≡ 8
    unfolding paired_at
    eights row g h l = eight (group_at w row g) (group_at w source g) (eight_at w g row h l)

    -- one group leaves the merge bytes of the others
    pub merge_kept : (row : List ℕ) (g : ℕ) → 8 * g + 8 ≤ w → w + g < length row → (k : ℕ) → 8 * k + 8 ≤ w → (k ≡ g → ⊥)
        → get_or (with_group w row g (paired_at f w source row g).group) (w + k) 0 ≡ get_or row (w + k) 0
    unfolding group_at
    merge_kept row g h l k m n = ap (λ (x : Group). x.merge) (group_other w row g (paired_at f w source row g).group (eights row g h (omega arith)) h l k m n)

    pub length_paired : (n g : ℕ) (row : List ℕ) → 8 * (g + n) ≤ w → w + (g + n) ≤ length row → length (pair_groups f w source n g row) ≡ length row
    unfolding pair_groups
    length_paired zero g row h l = refl
    length_paired (suc n) g row h l =
        let e = length_with w row g (paired_at f w source row g).group (eights row g (omega arith) (omega arith)) (omega arith) (omega arith) in
        length_paired n (g + 1) (with_group w row g (paired_at f w source row g).group) (omega arith) (omega (arith, e)) ∙ e

    -- the other groups stay, and each of the n is the operation's
    pub paired_other : (n g : ℕ) (row : List ℕ) → 8 * (g + n) ≤ w → w + (g + n) ≤ length row → (k : ℕ) → 8 * k + 8 ≤ w → (g ≤ k → k < g + n → ⊥)
        → group_at w (pair_groups f w source n g row) k ≡ group_at w row k
    unfolding pair_groups
    paired_other zero g row h l k m p = refl
    paired_other (suc n) g row h l k m p =
        let is-eight = eights row g (omega arith) (omega arith) in
        let e = length_with w row g (paired_at f w source row g).group is-eight (omega arith) (omega arith) in
        paired_other n (g + 1) (with_group w row g (paired_at f w source row g).group) (omega arith) (omega (arith, e)) k m (λ a b. p (omega arith) (omega arith))
        ∙ group_other w row g (paired_at f w source row g).group is-eight (omega arith) (omega arith) k m (λ q. p (omega arith) (omega arith))

    pub paired_from : (n g : ℕ) (row : List ℕ) → 8 * (g + n) ≤ w → w + (g + n) ≤ length row → (k : ℕ) → g ≤ k → k < g + n
        → group_at w (pair_groups f w source n g row) k ≡ (paired_at f w source row k).group
    unfolding pair_groups paired_at
    paired_from zero g row h l k p q = absurd (omega arith)
    paired_from (suc n) g row h l k p q =
        let x = (paired_at f w source row g).group in
        let next = with_group w row g x in
        let is-eight = eights row g (omega arith) (omega arith) in
        let e = length_with w row g x is-eight (omega arith) (omega arith) in
        elim (dec_lt g k) [
          | yes m ↦
              paired_from n (g + 1) next (omega arith) (omega (arith, e)) k (omega arith) (omega arith)
              ∙ ap (λ (y : Group). (f y (group_at w source k)).group) (group_other w row g x is-eight (omega arith) (omega arith) k (omega arith) (λ z. omega arith))
          | no m ↦
              let z : k ≡ g = omega arith in
              rw z (paired_other n (g + 1) next (omega arith) (omega (arith, e)) g (omega arith) (λ a b. omega arith) ∙ group_same w row g x is-eight (omega arith) (omega arith))
        ]
