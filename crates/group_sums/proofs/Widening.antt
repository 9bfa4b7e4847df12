-- Two counters of a group side by side that become one, in the group's count bytes taken as one number. For any kind of counter.
use Rattle.std.proofs.Common.{Ok}
use mathlib.Core.Path.{◌≡◌, sym, ap, ◌∙◌}
use mathlib.Core.Bool.{true}
use Prim.Native.Nat.{ℕ, suc, ◌+◌, ◌-◌, ◌*◌, ◌/◌, ◌%◌, ◌^◌, ◌≤◌, ◌<◌}
use native.Mathlib.Nat.{mul_assoc, add-mul, one-mul, mod-lt, mul-div_cancel, div-mul-le_self, lt-div-mul-add, div-add-mod'}
use native.Mathlib.Numerals.{add-one}
use native.Mathlib.Omega.{arith}
use lib.Pow.{pow_pos, field, shr-shr, mod-mod-pow}
use Rattle.group_layout.specs.Layout.{Layout, layout, valid, marks, level_of}
use Rattle.group_block.specs.Kind.{Kind}
use Rattle.group_block.specs.declared.Counter.{Counter}
use Rattle.group_block.specs.Block.{BlockOf, cap, shape, number_of, all_clean, block_as, block, counter_value, counter_at}
use Rattle.group_block.specs.Sum.{SumOf, add}
use Rattle.group_block.specs.Passed.{summed_as}
use Rattle.group_block.proofs.Adding.{Sound, add_sound}
use Rattle.group_block.specs.Figure.{Coded}
use Rattle.group_block.proofs.Sums.{Sums}
use Rattle.group_block.proofs.Laws.{cap_pos, high_lt, word_lt_of, word_block_of, marks_block_of, block_fits_of, shape_fill_of}
use Rattle.group_slots.proofs.AnyKind.{bits_at, value_of, clean_at}
use Rattle.group_slots.proofs.Slots.{level_block}
use Rattle.group_slots.proofs.Twins.{Twins, Widened, whole_left, widens}
use Rattle.group_sums.proofs.Places.{counter_at_lem}

-- a field of the next level is two fields
low_field : (x L : ℕ) → x % cap (suc L) % cap L ≡ x % cap L
unfolding cap
low_field x L =
    let e : 8 * 2 ^ suc L ≡ 8 * 2 ^ L + 8 * 2 ^ L = omega arith in
    rw e (mod-mod-pow x (8 * 2 ^ L) (8 * 2 ^ L))

high_field : (x L : ℕ) → x % cap (suc L) / cap L ≡ x / cap L % cap L
unfolding cap
high_field x L =
    let e : 8 * 2 ^ suc L ≡ 8 * 2 ^ L + 8 * 2 ^ L = omega arith in
    rw e (field x (8 * 2 ^ L) (8 * 2 ^ L))

-- where the two counters are
first_multiple : (i L : ℕ) → i * 2 ^ suc L / 2 ^ L * 2 ^ L ≡ i * 2 ^ suc L
first_multiple i L =
    let e : i * 2 ^ suc L ≡ i * 2 * 2 ^ L = ap (λ (x : ℕ). i * x) (omega arith) ∙ sym (mul_assoc i 2 (2 ^ L)) in
    rw (e, mul-div_cancel (i * 2) (pow_pos L))

second_multiple : (i L : ℕ) → (i * 2 ^ suc L + 2 ^ L) / 2 ^ L * 2 ^ L ≡ i * 2 ^ suc L + 2 ^ L
second_multiple i L =
    let e : i * 2 ^ suc L ≡ i * 2 * 2 ^ L = ap (λ (x : ℕ). i * x) (omega arith) ∙ sym (mul_assoc i 2 (2 ^ L)) in
    let f : i * 2 * 2 ^ L + 2 ^ L ≡ (i * 2 + 1) * 2 ^ L = omega (arith, add-mul (i * 2) 1 (2 ^ L), one-mul (2 ^ L)) in
    rw (e, f, mul-div_cancel (i * 2 + 1) (pow_pos L))

widen_at : {K : Kind} (S : Sums K) {n : ℕ} (b : BlockOf K n) (k : ℕ) (a : K.Value) (L p : ℕ) (u v : K.Value) → p ≡ k / 2 ^ suc L * 2 ^ suc L → L < n → k < 2 ^ n
    → Twins b L p u v → K.bound L ≤ K.size (K.plus (counter_value b k) a) → K.size (K.plus (K.plus u v) a) < K.bound (suc L) → Widened b k a L p u v
widen_at S b k a L p u v e g kn t o s =
    rw e (widens S b k a L (k / 2 ^ suc L) u v g kn (div-mul-le_self k (2 ^ suc L)) (lt-div-mul-add {a = k} {b = 2 ^ suc L} (pow_pos (suc L))) (rw e at t) o s)

module _ {K : Kind} {F : Type 0} {means : F → K.Value} {made : K.Value → F} (D : Coded K means made) (w m k : ℕ) (a : K.Value) (L p : ℕ) (h : w < cap 3) (v : valid 3 m ≡ true) (c : all_clean K (layout 3 m) w ≡ true)
    (k_lt : k < 8) (L-le : L ≤ 2) (p_is : p ≡ k / 2 ^ suc L * 2 ^ suc L) where
  abbrev both : ℕ
  both = w / 2 ^ (8 * p) % cap (suc L)

  p_in : p + 2 ^ suc L ≤ 8
  p_in = rw p_is (whole_left 3 L (k / 2 ^ suc L) k (omega arith) (div-mul-le_self k (2 ^ suc L)) k_lt)

  second_at : p + 2 ^ L < 8
  second_at = omega (arith, p_in, pow_pos L)

  -- a counter's value and its bits, by the bits of the ordinary block
  value_at : (j x : ℕ) → counter_at (block 3 w m) j ≡ record { value = x; level = L } → counter_value (block_as K 3 w m) j ≡ K.read L x
  unfolding block_as
  value_at j x e =
      value_of K (layout 3 m) w j
      ∙ ap (λ (n : ℕ). K.read n (bits_at (layout 3 m) w j)) (sym (level_block 3 w m j) ∙ ap (λ (r : Counter). r.level) e)
      ∙ ap (λ (r : Counter). K.read L r.value) e

  bits_at_lem : (j x : ℕ) → counter_at (block 3 w m) j ≡ record { value = x; level = L } → x < cap L → K.bits L (K.read L x) ≡ x
  unfolding block_as
  bits_at_lem j x e l =
      D.codes.bits_read L x l
      (ap (λ (r : Counter). K.clean L r.value) (sym e)
      ∙ ap (λ (n : ℕ). K.clean n (bits_at (layout 3 m) w j)) (sym (ap (λ (r : Counter). r.level) e) ∙ level_block 3 w m j)
      ∙ clean_at K (layout 3 m) w j c)

  module _ (one : level_of (layout 3 m) p ≡ L) (two : level_of (layout 3 m) (p + 2 ^ L) ≡ L)
      (over : K.bound L ≤ K.size (K.plus (counter_value (block_as K 3 w m) k) a)) where
    first_is : counter_at (block 3 w m) p ≡ record { value = both % cap L; level = L }
    first_is =
        counter_at_lem w m p L (8 * p) h (omega (arith, second_at)) (level_block 3 w m p ∙ one)
        (ap (λ (x : ℕ). 8 * x) (rw p_is (sym (first_multiple (k / 2 ^ suc L) L))))
        ∙ ap (λ (x : ℕ). record { value = x; level = L }) (sym (low_field (w / 2 ^ (8 * p)) L))

    second_value : w / 2 ^ (8 * (p + 2 ^ L)) % cap L ≡ both / cap L
    unfolding cap
    second_value =
        let e : 8 * (p + 2 ^ L) ≡ 8 * p + 8 * 2 ^ L = omega arith in
        ap (λ (x : ℕ). w / 2 ^ x % 2 ^ (8 * 2 ^ L)) e
        ∙ ap (λ (x : ℕ). x % 2 ^ (8 * 2 ^ L)) (sym (shr-shr w (8 * p) (8 * 2 ^ L)))
        ∙ sym (high_field (w / 2 ^ (8 * p)) L)

    second_is : counter_at (block 3 w m) (p + 2 ^ L) ≡ record { value = both / cap L; level = L }
    second_is =
        counter_at_lem w m (p + 2 ^ L) L (8 * (p + 2 ^ L)) h second_at (level_block 3 w m (p + 2 ^ L) ∙ two)
        (ap (λ (x : ℕ). 8 * x) (rw p_is (sym (second_multiple (k / 2 ^ suc L) L))))
        ∙ ap (λ (x : ℕ). record { value = x; level = L }) second_value

    abbrev left : K.Value
    left = K.read L (both % cap L)

    abbrev right : K.Value
    right = K.read L (both / cap L)

    abbrev sum : K.Value
    sum = K.plus (K.plus left right) a

    twins : Twins (block_as K 3 w m) L p left right
    unfolding block_as
    twins =
        let lay = shape_fill_of K (layout 3 m) w in
        record {
          first = value_at p (both % cap L) first_is;
          first_level = ap (λ (x : Layout 3). level_of x p) lay ∙ one;
          second = value_at (p + 2 ^ L) (both / cap L) second_is;
          second_level = ap (λ (x : Layout 3). level_of x (p + 2 ^ L)) lay ∙ two;
        }

    both_high : both / cap L < cap L
    both_high = high_lt L both (mod-lt (w / 2 ^ (8 * p)) (cap_pos (suc L)))

    both_is : K.bits L right * cap L + K.bits L left ≡ both
    both_is =
        rw (bits_at_lem p (both % cap L) first_is (mod-lt both (cap_pos L)), bits_at_lem (p + 2 ^ L) (both / cap L) second_is both_high) (div-add-mod' both (cap L))

    module _ (small : K.size sum < K.bound (suc L)) where
      result : Widened (block_as K 3 w m) k a L p left right
      result = widen_at D.sums (block_as K 3 w m) k a L p left right p_is (omega arith) k_lt twins over small

      new_lt : number_of result.0 < 2 ^ 64
      unfolding Sound cap
      new_lt = word_lt_of D.codes result.0 (rw result.1 at (add_sound (block_as K 3 w m) k a (block_fits_of D.codes 3 w m h)))

      -- the number and the merge byte that are left
      word_is : number_of result.0 + both * 2 ^ (8 * p) ≡ w + K.bits (suc L) sum * 2 ^ (8 * p)
      word_is = rw (both_is, word_block_of D.codes 3 w m h c) at result.2

      pub sum_in : w + K.bits (suc L) sum * 2 ^ (8 * p) < 2 ^ 64 + both * 2 ^ (8 * p)
      sum_in = omega (arith, word_is, new_lt)

      pub sum_is : (x : ℕ) → x + both * 2 ^ (8 * p) ≡ w + K.bits (suc L) sum * 2 ^ (8 * p)
          → Ok (record { word = x; merge = m + 2 ^ (2 ^ L - 1) * 2 ^ p }) ≡ summed_as K made (add (block_as K 3 w m) k a)
      unfolding summed_as
      sum_is x e =
          let f : x ≡ number_of result.0 = omega (arith, word_is) in
          let g : m + 2 ^ (2 ^ L - 1) * 2 ^ p ≡ marks (shape result.0) = sym (rw (marks_block_of K 3 w m v) at result.3) in
          rw (f, g) (sym (ap (λ (y : SumOf K 3). summed_as K made y) result.1))

pub second_in : (k L p : ℕ) → k < 8 → L ≤ 2 → p ≡ k / 2 ^ suc L * 2 ^ suc L → p + 2 ^ L < 8
second_in k L p k_lt L-le p_is =
    rw p_is (omega (arith, whole_left 3 L (k / 2 ^ suc L) k (omega arith) (div-mul-le_self k (2 ^ suc L)) k_lt, pow_pos L))

-- the same as the code has it: the place q, the level L + 1 and the sum t
module _ {K : Kind} {F : Type 0} {means : F → K.Value} {made : K.Value → F} (D : Coded K means made) (w m k : ℕ) (a : K.Value) (L q : ℕ) (h : w < cap 3) (v : valid 3 m ≡ true) (c : all_clean K (layout 3 m) w ≡ true)
    (k_lt : k < 8) (L-le : L ≤ 2) (q-is : q ≡ 8 * (k / 2 ^ (L + 1) * 2 ^ (L + 1)))
    (one : level_of (layout 3 m) (q / 8) ≡ L) (two : level_of (layout 3 m) (q / 8 + 2 ^ L) ≡ L)
    (over : K.bound L ≤ K.size (K.plus (counter_value (block_as K 3 w m) k) a))
    (t : K.Value) (t-is : t ≡ K.plus (K.plus (K.read L (w / 2 ^ q % cap (L + 1) % cap L)) (K.read L (w / 2 ^ q % cap (L + 1) / cap L))) a)
    (small : K.size t < K.bound (L + 1)) where
  eight : 8 * (q / 8) ≡ q
  eight = omega arith

  from_is : q / 8 ≡ k / 2 ^ suc L * 2 ^ suc L
  from_is = rw (← add-one L) (omega arith)

  abbrev parts : ℕ
  parts = w / 2 ^ (8 * (q / 8)) % cap (suc L)

  sum_of : K.plus (K.plus (K.read L (parts % cap L)) (K.read L (parts / cap L))) a ≡ t
  sum_of = rw (eight, ← add-one L) (sym t-is)

  small_is : K.size (K.plus (K.plus (K.read L (parts % cap L)) (K.read L (parts / cap L))) a) < K.bound (suc L)
  small_is = rw (sum_of, ← add-one L) small

  pub put_in : w + K.bits (L + 1) t * 2 ^ q < 2 ^ 64 + w / 2 ^ q % cap (L + 1) * 2 ^ q
  put_in = rw (sum_of, eight, ← add-one L) at (sum_in D w m k a L (q / 8) h v c k_lt L-le from_is one two over small_is)

  pub put_is : (x y : ℕ) → x + w / 2 ^ q % cap (L + 1) * 2 ^ q ≡ w + K.bits (L + 1) t * 2 ^ q → y ≡ m + 2 ^ (2 ^ L - 1) * 2 ^ (q / 8)
      → Ok (record { word = x; merge = y }) ≡ summed_as K made (add (block_as K 3 w m) k a)
  put_is x y e f =
      let g : x + parts * 2 ^ (8 * (q / 8)) ≡ w + K.bits (suc L) (K.plus (K.plus (K.read L (parts % cap L)) (K.read L (parts / cap L))) a) * 2 ^ (8 * (q / 8)) =
      rw (sum_of, eight, ← add-one L) e in
      rw f (sum_is D w m k a L (q / 8) h v c k_lt L-le from_is one two over small_is x g)
