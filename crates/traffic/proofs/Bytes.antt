-- A memory that holds a traffic, byte by byte: its bytes are bytes, its merge bytes are valid, and its traffic's totals alone decide it.
use mathlib.Core.Path.{◌≡◌, refl, sym, ap, ◌∙◌}
use mathlib.Core.Bool.{Bool, true, false, cond}
use mathlib.Core.List.{List, [], ◌∷◌}
use Prim.Native.Nat.{ℕ, zero, suc, ◌+◌, ◌-◌, ◌*◌, ◌/◌, ◌%◌, ◌≤◌, ◌<◌}
use native.Mathlib.Nat.{zero-mul, suc-mul, mod-lt, div-lt_iff_lt-mul, div-add-mod'}
use native.Mathlib.Decide.{dec_lt}
use native.Mathlib.Omega.{arith}
use borrow.Author.Tests.{lt-ltb, le-ltb}
use lib.Dec.{ltb}
use lib.ListN.{length, get_or, take, drop, length-drop, get_or-eq_default}
use lib.Seq.{get_or-take, get_or-drop, drop-drop, ext_get_or, length-take-le}
use Rattle.laws.proofs.Lists.{Bytes}
use Rattle.group_layout.specs.Layout.{valid}
use Rattle.group.specs.declared.Group.{Group}
use Rattle.group_totals.proofs.Groups.{group_of, group_same, count_lt, merge_lt, merge_valid}
use Rattle.geometry.specs.Geometry.{valid_width, stride, size}
use Rattle.meter_memory.specs.Rows.{group_at}
use Rattle.geometry.proofs.Widths.{wide, stride_is}
use Rattle.meter.specs.Meter.{row_of}
use Rattle.image_format.specs.Write.{all_valid, valid_rows}
use Rattle.traffic.specs.Traffic.{Pair, block_total}
use Rattle.traffic.proofs.Holds.{Holds, byte_in, byte_at}

-- byte j of a row, by its groups
in_row : (w : ℕ) (row : List ℕ) (groups : ℕ → Group) → valid_width w ≡ true → ((g : ℕ) → g < w / 8 → group_at w row g ≡ groups g)
    → (j : ℕ) → j < stride w → get_or row j 0 ≡ byte_in w groups j
unfolding byte_in group_at
in_row w row groups v same j h =
    let eights = (wide w v).eights in
    elim (dec_lt j w) [
      | yes l ↦
          let e : 8 * (j / 8) + j % 8 ≡ j = omega arith in
          rw (lt-ltb j w l)
          (ap (λ (k : ℕ). get_or row k 0) (sym e)
          ∙ sym (get_or-drop (8 * (j / 8)) row (j % 8) 0)
          ∙ sym (get_or-take 8 (drop (8 * (j / 8)) row) (j % 8) 0 (omega arith))
          ∙ ap (λ (x : Group). get_or x.counts (j % 8) 0) (same (j / 8) (omega arith)))
      | no l ↦
          let e : w + (j - w) ≡ j = omega arith in
          rw (le-ltb j w (omega arith))
          (ap (λ (k : ℕ). get_or row k 0) (sym e) ∙ ap (λ (x : Group). x.merge) (same (j - w) (omega (arith, stride_is w))))
    ]

module _ (d w : ℕ) (vw : valid_width w ≡ true) (memory : List ℕ) (ps : List Pair) (holds : Holds d w memory ps) where
  stride_pos : 0 < stride w
  stride_pos = omega (arith, stride_is w, (wide w vw).low)

  pub byte_is : (i : ℕ) → i < size d w → get_or memory i 0 ≡ byte_at w ps i
  unfolding byte_at size row_of
  byte_is i h =
      let s = stride w in
      let r = i / s in
      let j = i % s in
      let p : r < d = (div-lt_iff_lt-mul {k = s} {x = i} {y = d} stride_pos).1 h in
      let l : j < s = mod-lt i stride_pos in
      ap (λ (k : ℕ). get_or memory k 0) (sym (div-add-mod' i s))
      ∙ sym (get_or-drop (r * s) memory j 0)
      ∙ sym (get_or-take s (drop (r * s) memory) j 0 l)
      ∙ in_row w (row_of w memory r) (group_of (block_total w r ps)) vw (λ g q. holds.groups r g p q) j l

  in_lt : (t : ℕ → ℕ → ℕ) (j : ℕ) → byte_in w (group_of t) j < 256
  unfolding byte_in
  in_lt t j = go (ltb j w)
    where
      go : (c : Bool) → cond c (get_or (group_of t (j / 8)).counts (j % 8) 0) (group_of t (j - w)).merge < 256
      go true = count_lt t (j / 8) (j % 8)
      go false = merge_lt t (j - w)

  pub all_bytes : Bytes memory
  unfolding byte_at
  all_bytes i =
      elim (dec_lt i (size d w)) [
        | yes h ↦ rw (byte_is i h) (in_lt (block_total w (i / stride w) ps) (i % stride w))
        | no h ↦ rw (get_or-eq_default memory 0 {n = i} (omega (arith, holds.long))) (omega arith)
      ]

-- A memory that holds a traffic holds any other with the same totals, and is the only one.
abbrev pub SameTotals : ℕ → ℕ → List Pair → List Pair → Type 0
SameTotals d w ps qs = (r : ℕ) → r < d → (n i : ℕ) → block_total w r ps n i ≡ block_total w r qs n i

pub holds_too : (d w : ℕ) (memory : List ℕ) (ps qs : List Pair) → SameTotals d w ps qs → Holds d w memory ps → Holds d w memory qs
holds_too d w memory ps qs same holds =
    record {
      long = holds.long;
      fits = λ r g p q. rw (same r p 3 g) at (holds.fits r g p q);
      groups = λ r g p q. holds.groups r g p q ∙ group_same (block_total w r ps) (block_total w r qs) (same r p) g;
    }

pub one_memory : (d w : ℕ) → valid_width w ≡ true → (memory other : List ℕ) (ps qs : List Pair) → SameTotals d w ps qs
    → Holds d w memory ps → Holds d w other qs → memory ≡ other
one_memory d w vw memory other ps qs same holds held =
    ext_get_or 0 memory other (holds.long ∙ sym held.long)
    (λ i h.
    let k : i < size d w = omega (arith, holds.long) in
    byte_is d w vw memory qs (holds_too d w memory ps qs same holds) i k ∙ sym (byte_is d w vw other qs held i k))

-- merge bytes that are valid group by group are valid for the image
list_valid : (ms : List ℕ) → ((i : ℕ) → i < length ms → valid 3 (get_or ms i 0) ≡ true) → all_valid ms ≡ true
unfolding all_valid
list_valid [] h = refl
list_valid (m ∷ ms) h = rw (h 0 (omega arith), list_valid ms (λ i p. h (suc i) (omega arith)))

rows_valid : (n w : ℕ) (memory : List ℕ) → n * stride w ≤ length memory
    → ((r g : ℕ) → r < n → g < w / 8 → valid 3 (group_at w (row_of w memory r) g).merge ≡ true) → valid_rows n w memory ≡ true
unfolding valid_rows group_at row_of
rows_valid zero w memory l h = refl
rows_valid (suc n) w memory l h =
    let s = stride w in
    let room : n * s + s ≤ length memory = omega (arith, suc-mul n s) in
    let row = take s memory in
    let long : length row ≡ s = length-take-le s memory (omega arith) in
    let first : (i : ℕ) → i < length (drop w row) → valid 3 (get_or (drop w row) i 0) ≡ true = λ i p.
    rw (get_or-drop w row i 0) (rw (zero-mul s) at (h 0 i (omega arith) (omega (arith, length-drop w row, stride_is w)))) in
    let next : (r g : ℕ) → r < n → g < w / 8 → valid 3 (group_at w (row_of w (drop s memory) r) g).merge ≡ true = λ r g p q.
    let e : s + r * s ≡ suc r * s = omega (arith, suc-mul r s) in
    rw (drop-drop (r * s) s memory, e) (h (suc r) g (omega arith) q) in
    rw (list_valid (drop w row) first, rows_valid n w (drop s memory) (omega (arith, length-drop s memory)) next)

pub holds_valid : (d w : ℕ) (memory : List ℕ) (ps : List Pair) → Holds d w memory ps → valid_rows d w memory ≡ true
unfolding size
holds_valid d w memory ps holds =
    rows_valid d w memory (omega (arith, holds.long))
    (λ r g p q. rw (holds.groups r g p q) (merge_valid (block_total w r ps) g))
