-- The union of two unmerged groups is unmerged exactly where no sum of two bytes passes 255: for blocks of any level, and for groups side by side.
use Rattle.std.proofs.Common.{◌≡◌, ℕ, zero, suc, ◌+◌, ◌-◌, ◌*◌, ◌^◌, ◌<◌, Bool, true, false, cond, ◌&&◌, eqb, ltb, List, [], ◌∷◌, length, take, drop, sym, refl, ap, ◌∙◌, ap₂, mul-le-mul_left, arith, length-drop, length-take-le, pow_pos, pow_mono, ltb-true, lt-ltb, eq-eqb, eqb-true}
use Rattle.laws.proofs.Lists.{Bytes, bytes_drop, bytes_take}
use Rattle.laws.proofs.Tests.{both_ways}
use Rattle.little_endian.specs.Bytes.{number}
use Rattle.group_layout.specs.Layout.{ones, marks, layout}
use Rattle.group_block.specs.Block.{counter, cap, shape, fill, total, block_as}
use Rattle.group_block.specs.Sum.{Sum, fits, over, held, join, unite, sum_total}
use Rattle.group.specs.declared.Group.{Group}
use Rattle.group.specs.Group.{decode, encode, settle, united_groups}
use Rattle.group.proofs.Laws.{Eight}
use Rattle.group_side.specs.Side.{fit, unmerged, stay_unmerged}
use Rattle.group_side.proofs.Bytes.{fit_split}
use Rattle.group_side.proofs.Slots.{clear_halves, Slots, low_slots, high_slots, number_halves}
use Rattle.group_side.proofs.Unions.{filled, unmerged_valid, unmerged_status, fit_united}

-- bytes tested in two parts
fit_both : (k : ℕ) (xs ys : List ℕ) → fit (take k xs) (take k ys) ≡ true → fit (drop k xs) (drop k ys) ≡ true → fit xs ys ≡ true
fit_both k xs ys e f = rw (fit_split k xs ys, e, f)

-- the merge bits that a union leaves
marks_of : {n : ℕ} → Sum n → ℕ
marks_of (fits b) = marks (shape b)
marks_of (over s) = 1

abbrev held_in : (n : ℕ) → ℕ → Sum n
held_in n s = held n s

-- one counter of a level above 0 has its bit set
ones_pos : (n : ℕ) → 0 < ones (suc n)
unfolding ones
ones_pos n = omega (arith, pow_mono {i = 1} {j = 2 ^ suc n - 1} (omega (arith, pow_pos n)))

held_marks : (n s : ℕ) → marks_of (held_in (suc n) s) ≡ 0 → ⊥
unfolding marks_of held marks shape
held_marks n s = go (ltb s (cap (suc n)))
  where
    go : (b : Bool) → marks_of {n = suc n} (cond b (fits (counter s)) (over s)) ≡ 0 → ⊥
    go true e = omega (arith, ones_pos n)
    go false e = omega arith

slot_marks : (s : ℕ) → marks_of (held_in 0 s) ≡ 0 → s < cap 0
unfolding marks_of held
slot_marks s = go (ltb s (cap 0)) refl
  where
    go : (b : Bool) → ltb s (cap 0) ≡ b → marks_of {n = 0} (cond b (fits (counter s)) (over s)) ≡ 0 → s < cap 0
    go true t e = ltb-true s (cap 0) t
    go false t e = absurd (omega arith)

-- two halves side by side
join_marks : {n : ℕ} (x y : Sum n) → marks_of (join x y) ≡ 0 → (marks_of x ≡ 0) × (marks_of y ≡ 0)
unfolding marks_of join marks shape
join_marks {n} (fits l) (fits r) e =
    let high = mul-le-mul_left {m = 1} {n = 2 ^ (2 ^ n)} (marks (shape r)) (pow_pos (2 ^ n)) in
    (omega arith, omega (arith, high))
join_marks {n} (fits l) (over t) e = absurd (held_marks n (total l + t) e)
join_marks {n} (over s) y e = absurd (held_marks n (s + sum_total y) e)

slot_fit : (xs ys : List ℕ) → length xs ≡ 1 → length ys ≡ 1 → number xs + number ys < cap 0 → fit xs ys ≡ true
unfolding fit number cap
slot_fit [] ys l m h = absurd (omega arith)
slot_fit (x ∷ xs) [] l m h = absurd (omega arith)
slot_fit (x ∷ []) (y ∷ ys) l m h = rw (lt-ltb (x + y) 256 (omega arith))
slot_fit (x ∷ x' ∷ xs) (y ∷ ys) l m h = absurd (omega arith)

-- two unmerged blocks of any level
unite_fit : (n : ℕ) (xs ys : List ℕ) → Slots n xs → Slots n ys
    → marks_of (unite (filled (layout n 0) (number xs)) (filled (layout n 0) (number ys))) ≡ 0 → fit xs ys ≡ true
unfolding unite fill total layout
unite_fit zero xs ys s t e = slot_fit xs ys s.long t.long (slot_marks (number xs + number ys) e)
unite_fit (suc n) xs ys s t e =
    let x = number_halves s in
    let y = number_halves t in
    let p = join_marks _ _ (rw (clear_halves n, x.0, x.1, y.0, y.1) at e) in
    fit_both (2 ^ n) xs ys (unite_fit n (take (2 ^ n) xs) (take (2 ^ n) ys) (low_slots s) (low_slots t) p.0)
    (unite_fit n (drop (2 ^ n) xs) (drop (2 ^ n) ys) (high_slots s) (high_slots t) p.1)

-- two groups
settle_marks : (g : Group) (x : Sum 3) → (settle g x).status ≡ 0 → (settle g x).group.merge ≡ marks_of x
unfolding settle encode marks_of
settle_marks g (fits b) e = refl
settle_marks g (over s) e = absurd (omega arith)

module _ (counts source : List ℕ) (e : Eight counts) (f : Eight source) where
  united_is : united_groups (unmerged counts) (unmerged source) ≡ settle (unmerged counts) (unite (decode (unmerged counts)) (decode (unmerged source)))
  unfolding united_groups
  united_is = rw unmerged_valid

  merged_fit : (united_groups (unmerged counts) (unmerged source)).group.merge ≡ 0 → fit counts source ≡ true
  unfolding decode block_as
  merged_fit z =
      let s = rw united_is at (unmerged_status counts source e f) in
      unite_fit 3 counts source (record { long = e.long; small = e.small }) (record { long = f.long; small = f.small })
      (sym (settle_marks (unmerged counts) (unite (decode (unmerged counts)) (decode (unmerged source))) s) ∙ rw united_is at z)

  pub fit_exact : fit counts source ≡ eqb (united_groups (unmerged counts) (unmerged source)).group.merge 0
  fit_exact =
      both_ways (fit counts source) (eqb (united_groups (unmerged counts) (unmerged source)).group.merge 0)
      (λ t. eq-eqb _ 0 (ap (λ (g : Group). g.merge) (fit_united counts source e.long f.long t)))
      (λ t. merged_fit (eqb-true _ 0 t))

-- n groups side by side
fit_empty : (xs ys : List ℕ) → length xs ≡ 0 → fit xs ys ≡ true
unfolding fit
fit_empty [] ys l = refl
fit_empty (x ∷ xs) ys l = absurd (omega arith)

eight_first : (n : ℕ) (xs : List ℕ) → length xs ≡ 8 * suc n → Bytes xs → Eight (take 8 xs)
eight_first n xs l b = record { long = length-take-le 8 xs (omega arith); small = bytes_take 8 xs b }

pub fit_side : (n : ℕ) (counts source : List ℕ) → length counts ≡ 8 * n → length source ≡ 8 * n → Bytes counts → Bytes source
    → fit counts source ≡ stay_unmerged n counts source
unfolding stay_unmerged
fit_side zero counts source l m b c = fit_empty counts source l
fit_side (suc n) counts source l m b c =
    let first = fit_exact (take 8 counts) (take 8 source) (eight_first n counts l b) (eight_first n source m c) in
    let rest = fit_side n (drop 8 counts) (drop 8 source) (rw (length-drop 8 counts) (omega arith)) (rw (length-drop 8 source) (omega arith))
    (bytes_drop 8 counts b) (bytes_drop 8 source c) in
    fit_split 8 counts source ∙ ap₂ ◌&&◌ first rest
