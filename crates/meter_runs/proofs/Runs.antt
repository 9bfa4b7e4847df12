-- Runs of unmerged groups in two rows, under any operation on two groups: they answer nothing where each answers nothing, and where each is
-- left unmerged their count bytes are stored side by side.
use mathlib.Core.Path.{◌≡◌, refl, sym, ap, ◌∙◌}
use mathlib.Core.Bool.{Bool, true, false, cond, not, and-eq-true_iff}
use mathlib.Core.List.{List, [], ◌∷◌, ◌++◌, append_assoc, append-nil}
use Prim.Native.Nat.{ℕ, zero, suc, ◌+◌, ◌-◌, ◌*◌, ◌≤◌, ◌<◌}
use native.Mathlib.Omega.{arith}
use borrow.Author.Tests.{not-true}
use borrow.Rule.Slice.PartMut.{put_mid, Post-is, put_same}
use lib.ListN.{length, get_or, take, drop, length-append, length-drop, take-append-drop}
use lib.Seq.{length-take-le, take_at, drop_at, drop-drop, get_or-take, get_or-drop, take-take}
use Rattle.laws.proofs.Lists.{drop_take}
use Rattle.group.specs.declared.Group.{Group}
use Rattle.group.specs.Results.{Outcome}
use Rattle.group_side.specs.Side.{any_merged, unmerged, part}
use Rattle.group_side.proofs.Bytes.{none_merged_lem}
use Rattle.group_side.proofs.Parts.{part_next}
use Rattle.answer.specs.Order.{earlier, earliest}
use Rattle.answer.proofs.Order.{earlier_assoc}
use Rattle.meter_memory.specs.Pairs.{paired_at, pair_status, pair_groups}
use Rattle.meter_memory.specs.Rows.{of_groups, group_at, with_group}
use Rattle.meter_memory.proofs.Lists.{status_run}
use Rattle.meter_memory.proofs.Groups.{with_counts, length_with, group_other}
use Rattle.meter_memory.proofs.Pairs.{paired_other}
use Rattle.meter_runs.specs.Runs.{InRows, merges_of, counts_of, none_merged, run_status, RunTaken}

-- the merge bytes of the groups are 0
module _ (w n g : ℕ) (row source : List ℕ) (e : none_merged w n g row source ≡ true) where
  merge_none : (xs : List ℕ) → not (any_merged (merges_of w n g xs)) ≡ true → (k : ℕ) → g ≤ k → k < g + n → get_or xs (w + k) 0 ≡ 0
  merge_none xs f k p q =
      let i = k - g in
      let at : w + g + i ≡ w + k = omega arith in
      ap (λ (j : ℕ). get_or xs j 0) (sym at)
      ∙ sym (get_or-drop (w + g) xs i 0)
      ∙ sym (get_or-take n (drop (w + g) xs) i 0 (omega arith))
      ∙ none_merged_lem (merges_of w n g xs) (not-true _ f) i

  none_either : (not (any_merged (merges_of w n g row)) ≡ true) × (not (any_merged (merges_of w n g source)) ≡ true)
  unfolding none_merged
  none_either = (and-eq-true_iff (not (any_merged (merges_of w n g row))) (not (any_merged (merges_of w n g source)))).0 e

  pub row_none : (k : ℕ) → g ≤ k → k < g + n → get_or row (w + k) 0 ≡ 0
  row_none = merge_none row none_either.0

  pub source_none : (k : ℕ) → g ≤ k → k < g + n → get_or source (w + k) 0 ≡ 0
  source_none = merge_none source none_either.1

-- n unmerged groups side by side: the operation answers nothing for any of them; zs are the count bytes that it leaves, again of unmerged groups
abbrev pub EachTaken : (Group → Group → Outcome) → ℕ → List ℕ → List ℕ → Type 0
EachTaken f n counts source = (i : ℕ) → i < n → (f (unmerged (part i counts)) (unmerged (part i source))).status ≡ 0

abbrev pub EachLeft : (Group → Group → Outcome) → ℕ → List ℕ → List ℕ → List ℕ → Type 0
EachLeft f n counts source zs = (length zs ≡ 8 * n) × ((i : ℕ) → i < n → (f (unmerged (part i counts)) (unmerged (part i source))).group ≡ unmerged (part i zs))

-- those of a run
pub counts_long : (n g : ℕ) (row : List ℕ) → 8 * (g + n) ≤ length row → length (counts_of n g row) ≡ 8 * n
counts_long n g row h = length-take-le (8 * n) (drop (8 * g) row) (rw (length-drop (8 * g) row) (omega arith))

part_of : (n g i : ℕ) (row : List ℕ) → i < n → part i (counts_of n g row) ≡ part (g + i) row
part_of n g i row h =
    let at : 8 * g + 8 * i ≡ 8 * (g + i) = omega arith in
    ap (take 8) (drop_take (8 * i) (8 * (n - i)) (8 * n) (drop (8 * g) row) (omega arith))
    ∙ take-take 8 (8 * (n - i)) (drop (8 * i) (drop (8 * g) row)) (omega arith)
    ∙ ap (take 8) (drop-drop (8 * i) (8 * g) row ∙ ap (λ (k : ℕ). drop k row) at)

-- an unmerged group of a row
group_none : (w g : ℕ) (row : List ℕ) → get_or row (w + g) 0 ≡ 0 → group_at w row g ≡ unmerged (part g row)
unfolding group_at
group_none w g row e = rw e

-- the answers of groups of which each answers nothing
groups_none : (f : ℕ → ℕ) (n g : ℕ) → ((i : ℕ) → i < n → f (g + i) ≡ 0) → earliest (of_groups f n g) ≡ 0
unfolding earliest earlier of_groups
groups_none f zero g h = refl
groups_none f (suc n) g h =
    let z : g + 0 ≡ g = omega arith in
    rw (rw z at (h 0 (omega arith)))
    (groups_none f n (g + 1) (λ i p. let at : g + 1 + i ≡ g + suc i = omega arith in rw at (h (suc i) (omega arith))))

-- a row with other bytes before place a
joined_drop : (a : ℕ) (front row : List ℕ) → length front ≡ a → (k : ℕ) → a ≤ k → drop k (front ++ drop a row) ≡ drop k row
joined_drop a front row long k l =
    let e : k ≡ a + (k - a) = omega arith in
    rw (e, ← drop-drop (k - a) a (front ++ drop a row), drop_at front (drop a row) a long) (drop-drop (k - a) a row)

module _ (f : Group → Group → Outcome) (w : ℕ) (source : List ℕ) where
  pub paired_none : (g : ℕ) (row : List ℕ) → get_or row (w + g) 0 ≡ 0 → get_or source (w + g) 0 ≡ 0
      → f (unmerged (part g row)) (unmerged (part g source)) ≡ paired_at f w source row g
  unfolding paired_at
  paired_none g row p q = rw (group_none w g row p, group_none w g source q)

  -- the answer of k groups taken in, and those after them
  pub status_next : (n g k : ℕ) (row : List ℕ) (s x : ℕ) → g + k ≤ n → x ≡ run_status f w source row k g
      → earlier (earlier s x) (run_status f w source row (n - (g + k)) (g + k)) ≡ earlier s (run_status f w source row (n - g) g)
  unfolding run_status
  status_next n g k row s x h e =
      earlier_assoc s x (run_status f w source row (n - (g + k)) (g + k)) ∙ ap (earlier s) (rw e (status_run (pair_status f w source row) k n g h))

  pub status_skip : (n g k : ℕ) (row : List ℕ) → g + k ≤ n → run_status f w source row k g ≡ 0
      → run_status f w source row (n - (g + k)) (g + k) ≡ run_status f w source row (n - g) g
  unfolding earlier run_status
  status_skip n g k row h e = ap (λ (s : ℕ). earlier s (run_status f w source row (n - (g + k)) (g + k))) (sym e) ∙ status_run (pair_status f w source row) k n g h

  -- k groups written, and those after them answer nothing still
  pub taken_after : ((x y : Group) → length x.counts ≡ 8 → length (f x y).group.counts ≡ 8)
      → (k n g : ℕ) (row : List ℕ) → g + k ≤ n → 8 * n ≤ w → w + n ≤ length row → RunTaken f w source row (n - g) g
      → RunTaken f w source (pair_groups f w source k g row) (n - (g + k)) (g + k)
  unfolding pair_status paired_at
  taken_after eight k n g row h m l taken i p q =
      ap (λ (x : Group). (f x (group_at w source i)).status) (paired_other f w source eight k g row (omega arith) (omega arith) i (omega arith) (λ a b. omega arith))
      ∙ taken i (omega arith) (omega arith)

  -- a group that keeps its merge byte, and groups side by side
  with_stored : (g : ℕ) (row : List ℕ) (x : Group) (zs : List ℕ) → x ≡ record { counts = zs; merge = (group_at w row g).merge } → length zs ≡ 8
      → 8 * g + 8 ≤ w → w + g < length row → with_group w row g x ≡ take (8 * g) row ++ zs ++ drop (8 * g + 8) row
  unfolding group_at
  with_stored g row x zs e l h m = rw e (with_counts w row g (record { counts = zs; merge = get_or row (w + g) 0 }) l h m refl)

  kept_side : (n g : ℕ) (row zs : List ℕ) → 8 * (g + n) ≤ w → w + (g + n) ≤ length row → length zs ≡ 8 * n
      → ((i : ℕ) → i < n → (paired_at f w source row (g + i)).group ≡ record { counts = part i zs; merge = (group_at w row (g + i)).merge })
      → take (8 * g) row ++ zs ++ drop (8 * (g + n)) row ≡ pair_groups f w source n g row
  unfolding paired_at pair_groups
  kept_side zero g row [] h l m e =
      let z : g + 0 ≡ g = omega arith in
      rw (z, append-nil (take (8 * g) row)) (take-append-drop (8 * g) row)
  kept_side zero g row (z ∷ zs) h l m e = absurd (omega arith)
  kept_side (suc n) g row zs h l m e =
      let a = 8 * g + 8 in
      let end = 8 * (g + suc n) in
      let x = (paired_at f w source row g).group in
      let next = with_group w row g x in
      let here : g + 0 ≡ g = omega arith in
      let first : x ≡ record { counts = take 8 zs; merge = (group_at w row g).merge } = rw here at (e 0 (omega arith)) in
      let eight : length (take 8 zs) ≡ 8 = length-take-le 8 zs (omega arith) in
      let eight_of : length x.counts ≡ 8 = rw first eight in
      let stored = with_stored g row x (take 8 zs) first eight (omega arith) (omega arith) in
      let front : length (take (8 * g) row ++ take 8 zs) ≡ a = rw (length-append (take (8 * g) row) (take 8 zs), length-take-le (8 * g) row (omega arith), eight) in
      let ih = kept_side n (g + 1) next (drop 8 zs) (omega arith) (rw (length_with w row g x eight_of (omega arith) (omega arith)) (omega arith)) (rw (length-drop 8 zs) (omega arith))
      (λ i p.
      let at : g + 1 + i ≡ g + suc i = omega arith in
      let other = group_other w row g x eight_of (omega arith) (omega arith) (g + 1 + i) (omega arith) (λ q. omega arith) in
      ap (λ (y : Group). (f y (group_at w source (g + 1 + i))).group) other ∙ rw (other, at, ← part_next i zs) (e (suc i) (omega arith))) in
      let at : 8 * (g + 1) ≡ a = omega arith in
      let after : 8 * (g + 1 + n) ≡ end = omega arith in
      let before : take a next ≡ take (8 * g) row ++ take 8 zs = rw stored (take_at (take (8 * g) row ++ take 8 zs) (drop a row) a front) in
      let behind : drop end next ≡ drop end row = rw stored (joined_drop a (take (8 * g) row ++ take 8 zs) row front end (omega arith)) in
      ap (λ (l : List ℕ). l ++ drop end row) (ap (λ (l : List ℕ). take (8 * g) row ++ l) (sym (take-append-drop 8 zs)) ∙ sym (append_assoc (take (8 * g) row) (take 8 zs) (drop 8 zs)))
      ∙ rw (at, after, before, behind) at ih

  -- a run of unmerged groups
  module _ (n g : ℕ) (row : List ℕ) (none : none_merged w n g row source ≡ true) where
    abbrev pairedPart : ℕ → Outcome
    pairedPart i = f (unmerged (part i (counts_of n g row))) (unmerged (part i (counts_of n g source)))

    paired_part : (i : ℕ) → i < n → pairedPart i ≡ paired_at f w source row (g + i)
    paired_part i p =
        rw (part_of n g i row p, part_of n g i source p)
        (paired_none (g + i) row (row_none w n g row source none (g + i) (omega arith) (omega arith)) (source_none w n g row source none (g + i) (omega arith) (omega arith)))

    pub status_none : EachTaken f n (counts_of n g row) (counts_of n g source) → run_status f w source row n g ≡ 0
    unfolding run_status pair_status
    status_none e = groups_none (pair_status f w source row) n g (λ i p. ap (λ (o : Outcome). o.status) (sym (paired_part i p)) ∙ e i p)

    side_paired : InRows w n g row source → (zs : List ℕ) → EachLeft f n (counts_of n g row) (counts_of n g source) zs → take (8 * g) row ++ zs ++ drop (8 * (g + n)) row ≡ pair_groups f w source n g row
    unfolding group_at
    side_paired h zs s =
        kept_side n g row zs h.0 h.1 s.0
        (λ i p.
        ap (λ (o : Outcome). o.group) (sym (paired_part i p))
        ∙ s.1 i p
        ∙ ap (λ (m : ℕ). record { counts = part i zs; merge = m }) (sym (row_none w n g row source none (g + i) (omega arith) (omega arith))))

    -- the count bytes were lent, and are back as they were or as the operation leaves them
    pub side_back : InRows w n g row source → (r : Bool) (last : List ℕ) → (r ≡ false → last ≡ counts_of n g row) → (r ≡ true → EachLeft f n (counts_of n g row) (counts_of n g source) last)
        → put_mid (8 * g) (8 * g + 8 * n - 8 * g) row last ≡ cond r (pair_groups f w source n g row) row
    side_back h true last p q =
        let end : 8 * g + 8 * n ≡ 8 * (g + n) = omega arith in
        ap (λ (zs : List ℕ). take (8 * g) row ++ (last ++ zs)) (Post-is (8 * g) (8 * g + 8 * n) row (omega arith))
        ∙ sym (append_assoc (take (8 * g) row) last (drop (8 * g + 8 * n) row))
        ∙ rw end (side_paired h last (q refl))
    side_back h false last p q =
        let long : 8 * g + 8 * n - 8 * g ≡ 8 * n = omega arith in
        rw (long, p refl) (put_same (8 * g) (8 * n) row)
