-- Laws of blocks, for any level.
pub use Rattle.group_block.specs.Figure.{cap_pos, cap_square, cap_double}
use mathlib.Core.Path.{◌≡◌, refl, ap, ap₂}
use mathlib.Core.Bool.{true, false, and-eq-true_iff}
use Prim.Native.Nat.{ℕ, suc, ◌+◌, ◌*◌, ◌/◌, ◌%◌, ◌^◌, ◌≤◌, ◌<◌}
use native.Mathlib.Nat.{mod-lt, div-eq_of_lt, le-div_iff_mul-le, div-lt_iff_lt-mul, div-add-mod', mul-le-mul_left}
use native.Mathlib.Omega.{arith}
use native.Mathlib.Decide.{dec_lt}
use borrow.Author.Tests.{ne_eqb, lt-ltb, le-ltb}
use lib.Dec.{eqb, ltb}
use lib.Arith.{digits_lt, digits_div, digits_mod}
use lib.Pow.{pow_mono}
use Rattle.group_layout.specs.Layout.{Layout, merged, halves, marks, layout, valid}
use Rattle.group_layout.specs.Merged.{is_merged}
use Rattle.group_layout.proofs.Laws.{layout_marks, marks_layout, is_merged_lem, layout_suc}
use Rattle.group_block.specs.Kind.{Kind, ordinary}
use Rattle.group_block.specs.Figure.{Codes, ordinary_codes}
use Rattle.group_block.specs.Block.{BlockOf, Block, counter, split, cap, Fits, shape, number_of, fill, all_clean, block_as, block}

pub cap_mono : (m n : ℕ) → m ≤ n → cap m ≤ cap n
unfolding cap
cap_mono m n h = pow_mono {i = 8 * 2 ^ m} {j = 8 * 2 ^ n} (omega (arith, pow_mono {i = m} {j = n} h))

-- the halves of a number are below the halves' cap
pub high_lt : (n w : ℕ) → w < cap (suc n) → w / cap n < cap n
high_lt n w h = (div-lt_iff_lt-mul {k = cap n} {x = w} {y = cap n} (cap_pos n)).1 (omega (arith, cap_square n))

-- and make no larger a sum than the number
pub halves_le : (n w : ℕ) → w % cap n + w / cap n ≤ w
halves_le n w = omega (arith, div-add-mod' w (cap n), mul-le-mul_left {m = 1} {n = cap n} (w / cap n) (cap_pos n))

pub fill_fits_of : {K : Kind} (C : Codes K) {n : ℕ} (L : Layout n) (w : ℕ) → w < cap n → Fits (fill {K = K} L w)
unfolding fill Fits
fill_fits_of C {n} merged w h = C.read_holds n w h
fill_fits_of C (halves {n} l r) w h = (fill_fits_of C l (w % cap n) (mod-lt w (cap_pos n)), fill_fits_of C r (w / cap n) (high_lt n w h))

pub fill_fits : {n : ℕ} (L : Layout n) (w : ℕ) → w < cap n → Fits (fill {K = ordinary} L w)
fill_fits L w h = fill_fits_of ordinary_codes L w h

pub word_fill_of : {K : Kind} (C : Codes K) {n : ℕ} (L : Layout n) (w : ℕ) → w < cap n → all_clean K L w ≡ true → number_of (fill {K = K} L w) ≡ w
unfolding fill number_of all_clean
word_fill_of C {n} merged w h c = C.bits_read n w h c
word_fill_of {K} C (halves {n} l r) w h c =
    let p = (and-eq-true_iff (all_clean K l (w % cap n)) (all_clean K r (w / cap n))).0 c in
    rw (word_fill_of C l (w % cap n) (mod-lt w (cap_pos n)) p.0, word_fill_of C r (w / cap n) (high_lt n w h) p.1) (div-add-mod' w (cap n))

-- every number is one of an ordinary meter
pub all_clean_lem : {n : ℕ} (L : Layout n) (w : ℕ) → all_clean ordinary L w ≡ true
unfolding all_clean
all_clean_lem merged w = refl
all_clean_lem (halves {n} l r) w = rw (all_clean_lem l (w % cap n), all_clean_lem r (w / cap n))

pub word_fill : {n : ℕ} (L : Layout n) (w : ℕ) → w < cap n → number_of (fill {K = ordinary} L w) ≡ w
word_fill L w h = word_fill_of ordinary_codes L w h (all_clean_lem L w)

pub shape_fill_of : (K : Kind) {n : ℕ} (L : Layout n) (w : ℕ) → shape (fill {K = K} L w) ≡ L
unfolding fill shape
shape_fill_of K merged w = refl
shape_fill_of K (halves {n} l r) w = ap₂ halves (shape_fill_of K l (w % cap n)) (shape_fill_of K r (w / cap n))

pub shape_fill : {n : ℕ} (L : Layout n) (w : ℕ) → shape (fill {K = ordinary} L w) ≡ L
shape_fill L w = shape_fill_of ordinary L w

pub word_lt_of : {K : Kind} (C : Codes K) {n : ℕ} (b : BlockOf K n) → Fits b → number_of b < cap n
unfolding number_of Fits
word_lt_of C {n} (counter v) f = C.bits_lt n v f
word_lt_of C (split {n} l r) f = rw (cap_square n) (digits_lt (word_lt_of C r f.1) (word_lt_of C l f.0))

pub word_lt : {n : ℕ} (b : Block n) → Fits b → number_of b < cap n
word_lt b f = word_lt_of ordinary_codes b f

pub fill_word_of : {K : Kind} (C : Codes K) {n : ℕ} (b : BlockOf K n) → Fits b → fill (shape b) (number_of b) ≡ b
unfolding fill shape number_of Fits
fill_word_of C {n} (counter v) f = ap counter (C.read_bits n v f)
fill_word_of C (split {n} l r) f =
    rw (
      digits_mod (number_of r) (word_lt_of C l f.0),
      digits_div (number_of r) (word_lt_of C l f.0),
      fill_word_of C l f.0,
      fill_word_of C r f.1,
    )

pub fill_word : {n : ℕ} (b : Block n) → Fits b → fill (shape b) (number_of b) ≡ b
fill_word b f = fill_word_of ordinary_codes b f

-- a block whose counters hold their values has clean bits
pub word_clean : {K : Kind} (C : Codes K) {n : ℕ} (b : BlockOf K n) → Fits b → all_clean K (shape b) (number_of b) ≡ true
unfolding all_clean shape number_of Fits
word_clean C {n} (counter v) f = C.bits_clean n v f
word_clean C (split {n} l r) f =
    rw (
      digits_mod (number_of r) (word_lt_of C l f.0),
      digits_div (number_of r) (word_lt_of C l f.0),
      word_clean C l f.0,
      word_clean C r f.1,
    )

-- count bytes and merge bits are those of the block that they stand for, and a block is the one that its bytes and bits stand for
pub block_is_of : {K : Kind} (C : Codes K) {n : ℕ} (b : BlockOf K n) → Fits b → block_as K n (number_of b) (marks (shape b)) ≡ b
unfolding block_as
block_is_of C b f = rw (layout_marks (shape b)) (fill_word_of C b f)

pub block_is : {n : ℕ} (b : Block n) → Fits b → block n (number_of b) (marks (shape b)) ≡ b
block_is b f = block_is_of ordinary_codes b f

pub word_block_of : {K : Kind} (C : Codes K) (n w m : ℕ) → w < cap n → all_clean K (layout n m) w ≡ true → number_of (block_as K n w m) ≡ w
unfolding block_as
word_block_of C n w m h c = word_fill_of C (layout n m) w h c

pub word_block : (n w m : ℕ) → w < cap n → number_of (block n w m) ≡ w
word_block n w m h = word_block_of ordinary_codes n w m h (all_clean_lem (layout n m) w)

pub marks_block_of : (K : Kind) (n w m : ℕ) → valid n m ≡ true → marks (shape (block_as K n w m)) ≡ m
unfolding block_as
marks_block_of K n w m v = rw (shape_fill_of K (layout n m) w) (marks_layout n m v)

pub marks_block : (n w m : ℕ) → valid n m ≡ true → marks (shape (block n w m)) ≡ m
marks_block n w m v = marks_block_of ordinary n w m v

pub block_fits_of : {K : Kind} (C : Codes K) (n w m : ℕ) → w < cap n → Fits (block_as K n w m)
unfolding block_as
block_fits_of C n w m h = fill_fits_of C (layout n m) w h

pub block_fits : (n w m : ℕ) → w < cap n → Fits (block n w m)
block_fits n w m h = block_fits_of ordinary_codes n w m h

-- a number is below the cap where nothing is above it
pub zero_high : (n w : ℕ) → eqb (w / cap n) 0 ≡ ltb w (cap n)
zero_high n w = elim (dec_lt w (cap n)) [
  | yes h ↦ rw (div-eq_of_lt {n = w} {m = cap n} h, lt-ltb w (cap n) h)
  | no h ↦ rw (le-ltb w (cap n) (omega arith)) (ne_eqb (w / cap n) 0 (λ e. omega (arith, (le-div_iff_mul-le {k = cap n} {x = 1} {y = w} (cap_pos n)).1 (omega arith))))
]

-- what the recursions on the level meet
pub block_merged_of : (K : Kind) (n w m : ℕ) → is_merged (layout n m) ≡ true → block_as K n w m ≡ counter (K.read n w)
unfolding block_as fill
block_merged_of K n w m e = rw (is_merged_lem (layout n m) e)

pub block_merged : (n w m : ℕ) → is_merged (layout n m) ≡ true → block n w m ≡ counter w
block_merged n w m e = block_merged_of ordinary n w m e

pub block_suc : (K : Kind) (n w m : ℕ) → is_merged (layout (suc n) m) ≡ false
    → block_as K (suc n) w m ≡ split (block_as K n (w % cap n) (m % 2 ^ (2 ^ n))) (block_as K n (w / cap n) (m / 2 ^ (2 ^ n)))
unfolding block_as fill
block_suc K n w m e = rw (layout_suc n m e)

-- the cap of a half of a group
pub cap_below : (n : ℕ) → n ≤ 2 → cap n ≤ 2 ^ 32
unfolding cap
cap_below n h = cap_mono n 2 h
