-- Unions of unmerged groups: accepted, and made byte by byte where no sum of two bytes passes 255.
use Rattle.std.proofs.Common.{◌≡◌, ℕ, zero, suc, ◌+◌, ◌*◌, ◌/◌, ◌%◌, ◌^◌, ◌<◌, ◌≤◌, true, ltb, List, [], ◌∷◌, ◌++◌, length, take, drop, sym, refl, ap, ◌∙◌, ap₂, arith, length-drop, length-take-le, ltb-true}
use mathlib.Core.Bool.{and-eq-true_iff}
use Rattle.little_endian.specs.Bytes.{number, bytes}
use Rattle.little_endian.proofs.Bytes.{bytes_number}
use Rattle.group_layout.specs.Layout.{Layout, halves, layout}
use Rattle.group_block.specs.Block.{Block, cap, Fits, fill, total, block_as}
use Rattle.group_block.specs.Kind.{ordinary}
use Rattle.group_block.proofs.Codes.{ordinary_codes}
use Rattle.group_block.proofs.Laws.{fill_fits}
use Rattle.group_block.proofs.Adding.{total_lt}
use Rattle.group.specs.declared.Group.{Group}
use Rattle.group.specs.Results.{Outcome}
use Rattle.group.specs.Group.{decode, united_groups, valid_merge}
use Rattle.group.specs.Stored.{stored}
use Rattle.group.proofs.Laws.{Eight, number_in, united_status, united_fits}
use Rattle.group_side.proofs.Bytes.{fit_split}
use Rattle.group_side.proofs.Slots.{clear_halves, clear_valid, Each, none, more, each_long, Holds, each_bytes, sums_below, sums_united}
use Rattle.group_side.specs.Side.{fit, sums, unmerged, united_side}

-- the block of a layout and count bytes, taken as one number
abbrev pub filled : {n : ℕ} → Layout n → ℕ → Block n
filled L w = fill L w

-- a block that is not merged has the total of its halves
halves_total : {n : ℕ} (l r : Layout n) (w : ℕ) → w < cap (suc n) → total (filled (halves l r) w) < cap n + cap n
unfolding fill total Fits
halves_total {n} l r w h =
    let f = fill_fits (halves l r) w h in
    omega (arith, total_lt (filled l (w % cap n)) f.0, total_lt (filled r (w / cap n)) f.1)

pub unmerged_valid : valid_merge 0 ≡ true
unmerged_valid = clear_valid 3

-- the sum of all counters of two unmerged groups is far below 2 ^ 64
small_total : (counts : List ℕ) → number counts < cap 3 → total (decode (unmerged counts)) < cap 2 + cap 2
unfolding decode block_as
small_total counts h = rw (clear_halves 2) (halves_total (layout 2 0) (layout 2 0) (number counts) h)

below_64 : cap 2 + cap 2 + (cap 2 + cap 2) ≤ 2 ^ 64
unfolding cap
below_64 = omega arith

pub unmerged_status : (counts source : List ℕ) → Eight counts → Eight source → (united_groups (unmerged counts) (unmerged source)).status ≡ 0
unmerged_status counts source e f =
    let h = number_in counts e in
    let k = number_in source f in
    united_status (unmerged counts) (unmerged source) h k unmerged_valid unmerged_valid (omega (arith, small_total counts h, small_total source k, below_64))

-- the sums of two lists of bytes, where none passes 255
fit_sums : (xs ys : List ℕ) → length xs ≡ length ys → fit xs ys ≡ true → Each (Holds ordinary) xs ys (sums xs ys)
unfolding fit sums cap
fit_sums [] [] l e = none
fit_sums [] (y ∷ ys) l e = absurd (omega arith)
fit_sums (x ∷ xs) [] l e = absurd (omega arith)
fit_sums (x ∷ xs) (y ∷ ys) l e =
    let p = (and-eq-true_iff (ltb (x + y) 256) (fit xs ys)).0 e in
    let h : x + y < 256 = ltb-true _ _ p.0 in
    let r : Holds ordinary x y (x + y) = record { first = omega arith; second = omega arith; small = h; is = refl } in
    more r (fit_sums xs ys (omega arith) p.1)

-- two groups
groups_united : (counts source zs : List ℕ) → length counts ≡ 8 → Each (Holds ordinary) counts source zs
    → (united_groups (unmerged counts) (unmerged source)).group ≡ unmerged zs
unfolding decode stored
groups_united counts source zs long s =
    let back : bytes 8 (number zs) ≡ zs = rw (← (each_long s).1 ∙ long) (bytes_number zs (each_bytes ordinary_codes s).2) in
    ap (λ (o : Outcome). o.group)
    (sym (united_fits (unmerged counts) (unmerged source) (number zs) (sums_below ordinary_codes 3 long s) unmerged_valid unmerged_valid (sums_united ordinary_codes 3 long s)))
    ∙ rw back

pub fit_united : (counts source : List ℕ) → length counts ≡ 8 → length source ≡ 8 → fit counts source ≡ true
    → (united_groups (unmerged counts) (unmerged source)).group ≡ unmerged (sums counts source)
fit_united counts source l m e = groups_united counts source (sums counts source) l (fit_sums counts source (l ∙ sym m) e)

-- and n of them side by side
fit_apart : (k : ℕ) (xs ys : List ℕ) → fit xs ys ≡ true → (fit (take k xs) (take k ys) ≡ true) × (fit (drop k xs) (drop k ys) ≡ true)
fit_apart k xs ys e = (and-eq-true_iff (fit (take k xs) (take k ys)) (fit (drop k xs) (drop k ys))).0 (sym (fit_split k xs ys) ∙ e)

sums_apart : (k : ℕ) (xs ys : List ℕ) → length xs ≡ length ys → sums (take k xs) (take k ys) ++ sums (drop k xs) (drop k ys) ≡ sums xs ys
unfolding sums
sums_apart zero xs ys l = refl
sums_apart (suc k) [] ys l = refl
sums_apart (suc k) (x ∷ xs) [] l = absurd (omega arith)
sums_apart (suc k) (x ∷ xs) (y ∷ ys) l = ap (λ (zs : List ℕ). (x + y) ∷ zs) (sums_apart k xs ys (omega arith))

sums_none : (xs ys : List ℕ) → length xs ≡ 0 → sums xs ys ≡ xs
unfolding sums
sums_none [] ys l = refl
sums_none (x ∷ xs) ys l = absurd (omega arith)

pub sums_side : (n : ℕ) (counts source : List ℕ) → length counts ≡ 8 * n → length source ≡ 8 * n → fit counts source ≡ true
    → sums counts source ≡ united_side n counts source
unfolding united_side
sums_side zero counts source l m e = sums_none counts source l
sums_side (suc n) counts source l m e =
    let f = fit_apart 8 counts source e in
    let u = fit_united (take 8 counts) (take 8 source) (length-take-le 8 counts (omega arith)) (length-take-le 8 source (omega arith)) f.0 in
    sym (sums_apart 8 counts source (l ∙ sym m))
    ∙ ap₂ ◌++◌ (ap (λ (g : Group). g.counts) (sym u))
    (sums_side n (drop 8 counts) (drop 8 source) (rw (length-drop 8 counts) (omega arith)) (rw (length-drop 8 source) (omega arith)) f.1)
