-- A slot's counter in a block of any kind, by the bits of the ordinary block of the same count bytes: its value, and an addition that
-- it holds. For any level.
use mathlib.Core.Path.{◌≡◌, refl, sym, ap₂}
use mathlib.Core.Bool.{Bool, true, false, cond, and-eq-true_iff}
use Prim.Native.Nat.{ℕ, ◌-◌, ◌/◌, ◌%◌, ◌^◌, ◌<◌}
use native.Mathlib.Nat.{mod-lt, mod-eq_of_lt}
use native.Mathlib.Decide.{dec_lt}
use native.Mathlib.Omega.{arith}
use borrow.Author.Tests.{lt-ltb, le-ltb}
use lib.Dec.{ltb}
use Rattle.group_layout.specs.Layout.{Layout, merged, halves, level_of}
use Rattle.group_block.specs.Kind.{Kind, ordinary}
use Rattle.group_block.specs.Block.{BlockOf, counter, split, cap, shape, number_of, fill, all_clean, counter_value, counter_at}
use Rattle.group_block.specs.Change.{change}
use Rattle.group_block.specs.Sum.{fits, held, join, add}
use Rattle.group_block.proofs.Codes.{Codes}
use Rattle.group_block.proofs.Laws.{cap_pos, high_lt, word_fill, word_fill_of, shape_fill_of}

-- a counter's bits: the value that the ordinary block of the same bytes has there
abbrev pub bits_at : {n : ℕ} → Layout n → ℕ → ℕ → ℕ
bits_at L w k = (counter_at (fill {K = ordinary} L w) k).value

-- the two halves, by the slot
by_half : (t : Bool) (P : Bool → Type 0) → (t ≡ true → P true) → (t ≡ false → P false) → P t
by_half true P f g = f refl
by_half false P f g = g refl

pub value_of : (K : Kind) {n : ℕ} (L : Layout n) (w k : ℕ) → counter_value (fill {K = K} L w) k ≡ K.read (level_of L k) (bits_at L w k)
unfolding counter_value counter_at level_of fill
value_of K merged w k = refl
value_of K (halves {n} l r) w k =
    by_half (ltb k (2 ^ n))
    (λ t.
    cond t (counter_value (fill {K = K} l (w % cap n)) k) (counter_value (fill {K = K} r (w / cap n)) (k - 2 ^ n))
    ≡ K.read (cond t (level_of l k) (level_of r (k - 2 ^ n))) (cond t (counter_at (fill {K = ordinary} l (w % cap n)) k) (counter_at (fill {K = ordinary} r (w / cap n)) (k - 2 ^ n))).value)
    (λ e. value_of K l (w % cap n) k)
    (λ e. value_of K r (w / cap n) (k - 2 ^ n))

pub clean_at : (K : Kind) {n : ℕ} (L : Layout n) (w k : ℕ) → all_clean K L w ≡ true → K.clean (level_of L k) (bits_at L w k) ≡ true
unfolding all_clean counter_at level_of fill
clean_at K merged w k c = c
clean_at K (halves {n} l r) w k c =
    let p = (and-eq-true_iff (all_clean K l (w % cap n)) (all_clean K r (w / cap n))).0 c in
    by_half (ltb k (2 ^ n))
    (λ t. K.clean (cond t (level_of l k) (level_of r (k - 2 ^ n))) (cond t (counter_at (fill {K = ordinary} l (w % cap n)) k) (counter_at (fill {K = ordinary} r (w / cap n)) (k - 2 ^ n))).value ≡ true)
    (λ e. clean_at K l (w % cap n) k p.0)
    (λ e. clean_at K r (w / cap n) (k - 2 ^ n) p.1)

-- an addition that its counter holds: the layout stays, and the counter's bits are those of the sum
abbrev pub Replaced : (K : Kind) {n : ℕ} → Layout n → ℕ → ℕ → K.Value → Type 0
Replaced K {n} L w k a =
    let sum = K.plus (counter_value (fill {K = K} L w) k) a in
    (b : BlockOf K n)
    × (add (fill {K = K} L w) k a ≡ fits b)
    × (shape b ≡ L)
    × (number_of b ≡ number_of (change (fill {K = ordinary} L w) k (K.bits (level_of L k) sum)))

pub add_replaced : {K : Kind} (C : Codes K) {n : ℕ} (L : Layout n) (w k : ℕ) (a : K.Value) → w < cap n → all_clean K L w ≡ true
    → K.size (K.plus (counter_value (fill {K = K} L w) k) a) < K.bound (level_of L k)
    → Replaced K L w k a
unfolding add held join shape number_of change counter_value level_of fill all_clean
add_replaced {K} C {n} merged w k a h c s =
    let sum = K.plus (K.read n w) a in
    (counter sum, rw (lt-ltb (K.size sum) (K.bound n) s), refl, sym (mod-eq_of_lt {n = K.bits n sum} {m = cap n} (C.bits_lt n sum s)))
add_replaced {K} C (halves {n} l r) w k a h c s =
    let p = (and-eq-true_iff (all_clean K l (w % cap n)) (all_clean K r (w / cap n))).0 c in
    let low = mod-lt w (cap_pos n) in
    let high = high_lt n w h in
    elim (dec_lt k (2 ^ n)) [
      | yes m ↦
          let e = lt-ltb k (2 ^ n) m in
          let t = add_replaced C l (w % cap n) k a low p.0 (rw e at s) in (
            split t.0 (fill r (w / cap n)),
            rw (e, t.1),
            ap₂ halves t.2 (shape_fill_of K r (w / cap n)),
            rw (e, t.3, word_fill_of C r (w / cap n) high p.1, word_fill r (w / cap n) high),
          )
      | no m ↦
          let e = le-ltb k (2 ^ n) (omega arith) in
          let t = add_replaced C r (w / cap n) (k - 2 ^ n) a high p.1 (rw e at s) in (
            split (fill l (w % cap n)) t.0,
            rw (e, t.1),
            ap₂ halves (shape_fill_of K l (w % cap n)) t.2,
            rw (e, t.3, word_fill_of C l (w % cap n) low p.0, word_fill l (w % cap n) low),
          )
    ]
