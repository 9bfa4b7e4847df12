-- A group whose counters hold totals: what its calls answer and leave, by the totals alone.
use mathlib.Core.Path.{◌≡◌, refl, sym, ap, ◌∙◌}
use mathlib.Core.Bool.{true, cond}
use Prim.Native.Nat.{ℕ, zero, suc, ◌+◌, ◌*◌, ◌/◌, ◌%◌, ◌^◌, ◌≤◌, ◌<◌}
use native.Mathlib.Nat.{mod-lt}
use native.Mathlib.Omega.{arith}
use lib.Dec.{eqb}
use lib.ListN.{get_or, replicate}
use Rattle.little_endian.specs.Bytes.{bytes}
use Rattle.group_layout.specs.Layout.{valid, marks, ones}
use Rattle.group_layout.specs.Layout as layouts
use Rattle.group_layout.proofs.Laws.{layout_marks, marks_in, widest_le}
use Rattle.group_block.specs.Kind.{ordinary}
use Rattle.group_block.specs.Block.{cap, shape, number_of, counter_at}
use Rattle.group_block_laws.specs.Counts.{Adds}
use Rattle.answer.specs.declared.Answer.{Answer}
use Rattle.group.specs.declared.Group.{Group}
use Rattle.group.specs.Results.{Outcome}
use Rattle.group.specs.Results.{Reading}
use Rattle.answer.specs.Answers.{accepted}
use Rattle.group.specs.Group.{encode, read, reading, settle, added, united_groups, widest_of}
use Rattle.group.proofs.Laws.{decode_encode, encode_valid}
use Rattle.group_totals.proofs.Canon.{small, canon, canon_sum, canon_same, canon_fits, sum_cases, plus_off, canon_off, add_canon, unite_canon, counter_is, Cause, level_le}
use Rattle.group_totals.proofs.Canon as blocks

-- group g of a row with these totals
unfoldable pub group_of : (ℕ → ℕ → ℕ) → ℕ → Group
group_of t g = encode (canon t 3 g)

-- totals that agree leave the same group, and those that are 0 a clear one
pub group_same : (t u : ℕ → ℕ → ℕ) → ((n i : ℕ) → t n i ≡ u n i) → (g : ℕ) → group_of t g ≡ group_of u g
unfolding group_of
group_same t u e g = ap encode (canon_same t u e 3 g)

clear_group : (g : ℕ) → group_of (λ n i. 0) g ≡ record { counts = replicate 8 0; merge = 0 }
unfolding group_of encode canon small bytes number_of shape marks ones cap
clear_group g = refl

pub group_clear : (t : ℕ → ℕ → ℕ) → ((n i : ℕ) → t n i ≡ 0) → (g : ℕ) → group_of t g ≡ record { counts = replicate 8 0; merge = 0 }
group_clear t e g = group_same t (λ n i. 0) e g ∙ clear_group g

-- its bytes
byte_lt : (n v i : ℕ) → get_or (bytes n v) i 0 < 256
unfolding bytes
byte_lt zero v i = omega arith
byte_lt (suc n) v zero = mod-lt v (omega arith)
byte_lt (suc n) v (suc i) = byte_lt n (v / 256) i

module _ (t : ℕ → ℕ → ℕ) (g : ℕ) where
  pub count_lt : (i : ℕ) → get_or (group_of t g).counts i 0 < 256
  unfolding group_of encode
  count_lt i = byte_lt 8 (number_of (canon t 3 g)) i

  pub merge_lt : (group_of t g).merge < 256
  unfolding group_of encode
  merge_lt = marks_in (shape (canon t 3 g))

  pub merge_valid : valid 3 (group_of t g).merge ≡ true
  unfolding group_of
  merge_valid = encode_valid (canon t 3 g)

  -- its widest level
  widest_is : widest_of (group_of t g).merge ≡ accepted (layouts.widest_in (shape (canon t 3 g)))
  unfolding widest_of group_of encode
  widest_is = rw (encode_valid (canon t 3 g), layout_marks (shape (canon t 3 g)))

  widest_value : (widest_of (group_of t g).merge).value ≡ layouts.widest_in (shape (canon t 3 g))
  widest_value = ap (λ (x : Answer). x.value) widest_is

  pub widest_status_lem : (widest_of (group_of t g).merge).status ≡ 0
  widest_status_lem = ap (λ (x : Answer). x.status) widest_is

  pub widest_most : (widest_of (group_of t g).merge).value ≤ 3
  widest_most = omega (arith, widest_value, widest_le (shape (canon t 3 g)))

  -- above level 0 it has a cause: a block of the level below that is too large
  pub widest_cause : (j w : ℕ) → (g + 1) * 8 ≤ w → (widest_of (group_of t g).merge).value ≡ suc j → Cause t w j
  widest_cause j w h e = blocks.widest_cause t 3 g j w h (sym widest_value ∙ e)

  -- what a slot reads
  module _ (fit : t 3 g < cap 3) (slot : ℕ) where
    read_is : read (group_of t g) slot ≡ reading (counter_at (canon t 3 g) (slot % 8))
    unfolding read group_of
    read_is = rw (encode_valid (canon t 3 g), decode_encode (canon t 3 g) (canon_fits t 3 g fit))

    pub read_status_lem : (read (group_of t g) slot).status ≡ 0
    unfolding reading
    read_status_lem = ap (λ (x : Reading). x.status) read_is

    pub read_level : (read (group_of t g) slot).level ≤ (widest_of (group_of t g).merge).value
    unfolding reading
    read_level = omega (arith, ap (λ (x : Reading). x.level) read_is, widest_value, level_le (canon t 3 g) (slot % 8))

    -- its value is the total of the block of its level that the slot is in
    pub read_value_lem : slot / 8 ≡ g → (read (group_of t g) slot).value ≡ t (read (group_of t g) slot).level (slot / 2 ^ (read (group_of t g) slot).level)
    unfolding reading
    read_value_lem e = rw read_is (counter_is t 3 g slot e)

-- a block that is too large for its level has a wider counter around it
pub wider : (t : ℕ → ℕ → ℕ) (s j : ℕ) → j < 3 → cap j ≤ t j (s / 2 ^ j) → suc j ≤ (widest_of (group_of t (s / 8)).merge).value
wider t s j h l = omega (arith, widest_value t (s / 8), blocks.wider t 3 s j h l)

-- what an accepted addition or union leaves: the group of the new totals, which a counter of 64 bits holds
pub record Left (t : ℕ → ℕ → ℕ) (g : ℕ) (x : Outcome) : Type 0 where
  pub fits : t 3 g < cap 3
  pub is : x.group ≡ group_of t g

settled : (x : Group) (t : ℕ → ℕ → ℕ) (g : ℕ) → (settle x (canon_sum t 3 g)).status ≡ 0 → Left t g (settle x (canon_sum t 3 g))
unfolding settle group_of
settled x t g =
    sum_cases t 3 g (λ s. (settle x s).status ≡ 0 → Left t g (settle x s)) (λ p e. record { fits = p; is = refl }) (λ p e. absurd (omega arith))

-- an amount more at a slot
module _ (t t' : ℕ → ℕ → ℕ) (adds' : Adds ordinary t') (s a : ℕ) (plus : (n i : ℕ) → t' n i ≡ cond (eqb (s / 2 ^ n) i) a 0 + t n i) where
  pub added_left : t 3 (s / 8) < cap 3 → (added (group_of t (s / 8)) s a).status ≡ 0 → Left t' (s / 8) (added (group_of t (s / 8)) s a)
  unfolding added group_of
  added_left fit =
      rw (encode_valid (canon t 3 (s / 8)), decode_encode (canon t 3 (s / 8)) (canon_fits t 3 (s / 8) fit), add_canon t t' adds' s a plus 3 (s / 8) refl)
      (settled (encode (canon t 3 (s / 8))) t' (s / 8))

  -- a group that the slot is not in
  pub total_off : (g : ℕ) → (s / 8 ≡ g → ⊥) → t' 3 g ≡ t 3 g
  total_off g e = plus_off t t' adds' s a plus 3 g e

  pub group_off : (g : ℕ) → (s / 8 ≡ g → ⊥) → group_of t' g ≡ group_of t g
  unfolding group_of
  group_off g e = ap encode (canon_off t t' adds' s a plus 3 g e)

-- the sums of two totals
pub united_left : (t u v : ℕ → ℕ → ℕ) → Adds ordinary t → Adds ordinary u → Adds ordinary v → ((n i : ℕ) → v n i ≡ t n i + u n i)
    → (g : ℕ) → t 3 g < cap 3 → u 3 g < cap 3 → (united_groups (group_of t g) (group_of u g)).status ≡ 0 → Left v g (united_groups (group_of t g) (group_of u g))
unfolding united_groups group_of
united_left t u v at au av sum g p q =
    rw (
      encode_valid (canon t 3 g),
      encode_valid (canon u 3 g),
      decode_encode (canon t 3 g) (canon_fits t 3 g p),
      decode_encode (canon u 3 g) (canon_fits u 3 g q),
      unite_canon t u v at au av sum 3 g,
    )
    (settled (encode (canon t 3 g)) v g)
