-- Runs of unmerged groups in two rows: their unions are accepted, and where none is merged they are made side by side.
use mathlib.Core.Path.{◌≡◌, refl, sym, ap, ◌∙◌}
use mathlib.Core.Bool.{Bool, true, false, cond, and-eq-true_iff}
use mathlib.Core.List.{List, ◌++◌}
use Prim.Native.Nat.{ℕ, zero, suc, ◌+◌, ◌-◌, ◌*◌, ◌/◌, ◌≤◌, ◌<◌}
use native.Mathlib.Omega.{arith}
use borrow.Author.Tests.{eqb-true}
use borrow.Rule.Slice.PartMut.{put_mid}
use lib.Dec.{eqb}
use lib.ListN.{length, take, drop, length-append, length-drop}
use lib.Seq.{length-take-le, take_at, drop_at}
use Rattle.laws.proofs.Lists.{Bytes, bytes_drop, bytes_take}
use Rattle.group.specs.Group.{united_groups}
use Rattle.group.proofs.Laws.{Eight}
use Rattle.group.proofs.Outcomes.{united_eight}
use Rattle.group_side.specs.Side.{unmerged, part, united_side, stay_unmerged}
use Rattle.group_side.proofs.Parts.{part_eight, part_next}
use Rattle.group_side.proofs.Unions.{unmerged_status}
use Rattle.meter_runs.specs.Runs.{InRows, counts_of, none_merged}
use Rattle.meter_runs.proofs.Runs.{counts_long, EachLeft, status_none, status_skip, side_back}
use Rattle.meter_union.specs.Union.{unite_groups}
use Rattle.meter_union.specs.Runs.{next_merged, groups_status}

-- unmerged groups of a row take those of another
eight_of : (n g i : ℕ) (row : List ℕ) → Bytes row → 8 * (g + n) ≤ length row → i < n → Eight (part i (counts_of n g row))
eight_of n g i row b l h = part_eight n (counts_of n g row) (counts_long n g row l) i h (bytes_take (8 * n) (drop (8 * g) row) (bytes_drop (8 * g) row b))

pub united_status_lem : (w n g : ℕ) (row source : List ℕ) → 8 * (g + n) ≤ w → w ≤ length row → w ≤ length source → Bytes row → Bytes source
    → none_merged w n g row source ≡ true → groups_status w source row n g ≡ 0
united_status_lem w n g row source h l m b c e =
    status_none united_groups w source n g row e
    (λ i p. unmerged_status (part i (counts_of n g row)) (part i (counts_of n g source)) (eight_of n g i row b (omega arith) p) (eight_of n g i source c (omega arith) p))

-- eights of unmerged groups, passed over one by one
module _ (w : ℕ) (row source : List ℕ) where
  pub next_turn : (n e : ℕ) (b : Bool) → e < n → none_merged w 8 (8 * e) row source ≡ b
      → next_merged w row source (n - e) e ≡ cond b (next_merged w row source (n - (e + 1)) (e + 1)) e
  unfolding next_merged
  next_turn n e b h f =
      let k : n - e ≡ suc (n - (e + 1)) = omega arith in
      rw (k, f)

  pub next_end : (n e : ℕ) → n ≤ e → next_merged w row source (n - e) e ≡ e
  unfolding next_merged
  next_end n e h =
      let k : n - e ≡ 0 = omega arith in
      rw k

  pub next_in : (n e : ℕ) → (e ≤ next_merged w row source n e) × (next_merged w row source n e ≤ e + n)
  unfolding next_merged
  next_in zero e = (omega arith, omega arith)
  next_in (suc n) e = go (none_merged w 8 (8 * e) row source) (next_in n (e + 1))
    where
      go : (b : Bool) → (e + 1 ≤ next_merged w row source n (e + 1)) × (next_merged w row source n (e + 1) ≤ e + 1 + n)
          → (e ≤ cond b (next_merged w row source n (e + 1)) e) × (cond b (next_merged w row source n (e + 1)) e ≤ e + suc n)
      go true p = (omega (arith, p.0), omega (arith, p.1))
      go false p = (omega arith, omega arith)

  -- they answer nothing
  module _ (l : w ≤ length row) (m : w ≤ length source) (b : Bytes row) (c : Bytes source) (k : ℕ) where
    abbrev From : ℕ → ℕ
    From e = groups_status w source row (k - 8 * e) (8 * e)

    pub next_status : (n e : ℕ) → 64 * (e + n) ≤ w → 8 * (e + n) ≤ k → From (next_merged w row source n e) ≡ From e
    unfolding next_merged
    next_status zero e h i = refl
    next_status (suc n) e h i = go (none_merged w 8 (8 * e) row source) refl (next_status n (e + 1) (omega arith) (omega arith))
      where
        go : (q : Bool) → none_merged w 8 (8 * e) row source ≡ q → From (next_merged w row source n (e + 1)) ≡ From (e + 1)
            → From (cond q (next_merged w row source n (e + 1)) e) ≡ From e
        go true f p =
            let at : 8 * (e + 1) ≡ 8 * e + 8 = omega arith in
            p ∙ rw at (status_skip united_groups w source k (8 * e) 8 row (omega arith) (united_status_lem w 8 (8 * e) row source (omega arith) l m b c f))
        go false f p = refl

-- the eights that are passed over answer nothing
pub passed_over : (w : ℕ) (row source : List ℕ) → w ≤ length row → w ≤ length source → Bytes row → Bytes source
    → (e r : ℕ) → e ≤ w / 64 → r ≡ next_merged w row source (w / 64 - e) e
    → (e ≤ r) × (groups_status w source row (w / 8 - 8 * r) (8 * r) ≡ groups_status w source row (w / 8 - 8 * e) (8 * e))
passed_over w row source l m b c e r h f =
    let n = w / 64 - e in
    (omega (arith, (next_in w row source n e).0, f), rw f (next_status w row source l m b c (w / 8) n e (omega arith) (omega arith)))

-- unions side by side, none of which is merged
side_left : (n : ℕ) (counts source : List ℕ) → length counts ≡ 8 * n → stay_unmerged n counts source ≡ true
    → EachLeft united_groups n counts source (united_side n counts source)
unfolding united_side stay_unmerged
side_left zero counts source l e = (l, λ i p. absurd (omega arith))
side_left (suc n) counts source l e =
    let x = (united_groups (unmerged (take 8 counts)) (unmerged (take 8 source))).group in
    let rest = united_side n (drop 8 counts) (drop 8 source) in
    let both = (and-eq-true_iff (eqb x.merge 0) (stay_unmerged n (drop 8 counts) (drop 8 source))).0 e in
    let eight : length x.counts ≡ 8 = united_eight (unmerged (take 8 counts)) (unmerged (take 8 source)) (length-take-le 8 counts (omega arith)) in
    let first : x ≡ unmerged x.counts = ap (λ (m : ℕ). record { counts = x.counts; merge = m }) (eqb-true x.merge 0 both.0) in
    let s = side_left n (drop 8 counts) (drop 8 source) (rw (length-drop 8 counts) (omega arith)) both.1 in
    let each : (i : ℕ) → i < suc n → (united_groups (unmerged (part i counts)) (unmerged (part i source))).group ≡ unmerged (part i (x.counts ++ rest)) = λ i. elim i as (λ k. k < suc n → (united_groups (unmerged (part k counts)) (unmerged (part k source))).group ≡ unmerged (part k (x.counts ++ rest))) [
      | zero ↦ λ p. first ∙ ap unmerged (sym (take_at x.counts rest 8 eight))
      | suc j ↦ λ p. rw (part_next j counts, part_next j source, part_next j (x.counts ++ rest), drop_at x.counts rest 8 eight) (s.1 j (omega arith))
    ] in
    (rw (length-append x.counts rest, eight, s.0) (omega arith), each)

-- a run of eight groups that was lent
pub united_back : (w g : ℕ) (row source : List ℕ) → InRows w 8 g row source → none_merged w 8 g row source ≡ true
    → (r : Bool) (last : List ℕ) → r ≡ stay_unmerged 8 (counts_of 8 g row) (counts_of 8 g source)
    → last ≡ cond r (united_side 8 (counts_of 8 g row) (counts_of 8 g source)) (counts_of 8 g row)
    → put_mid (8 * g) (8 * g + 64 - 8 * g) row last ≡ cond r (unite_groups w source 8 g row) row
united_back w g row source h none r last stays e =
    side_back united_groups w source 8 g row none h r last (λ f. e ∙ rw f)
    (λ t. rw (rw t at e) (side_left 8 (counts_of 8 g row) (counts_of 8 g source) (counts_long 8 g row (omega arith)) (sym stays ∙ t)))
