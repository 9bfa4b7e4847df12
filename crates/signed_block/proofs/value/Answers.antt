use mathlib.Core.Path.{◌≡◌, refl, sym, ap, ◌∙◌}
use mathlib.Core.Bool.{true, false, not, true≢false}
use Prim.Native.Nat.{ℕ, zero, suc, ◌-◌, ◌*◌, ◌%◌, ◌^◌, ◌≤◌, ◌<◌}
use native.Mathlib.Nat.{mod-lt, mod-eq_of_lt, mod-eq-sub-mod}
use native.Mathlib.Decide.{dec_lt}
use native.Mathlib.Omega.{arith}
use borrow.Author.Tests.{eq-eqb, lt-ltb, le-leb, lt-leb}
use lib.Bits.{bit_and, and_mask}
use Rattle.group_block.specs.Block.{cap}
use Rattle.signed_number.specs.Number.{times_sign, integer, signed_of}
use lib.Dec.{leb}
use Rattle.signed_block.specs.Signed.{top, sign_read, not_minus_zero}
use Rattle.signed_block.specs.Passed.{Canonical}
use Rattle.signed_block.proofs.Counters.{top_twice, top_pos, read_minus}
use Rattle.signed_block.proofs.value.Goals as goal

-- the bits below the sign
below : (n w : ℕ) → bit_and w (top n - 1) ≡ w % top n
unfolding top
below n w = and_mask w (8 * 2 ^ n - 1)

rest : (n w : ℕ) → top n ≤ w → w < cap n → w % top n ≡ w - top n
rest n w g h = mod-eq-sub-mod {n = w} {m = top n} g ∙ mod-eq_of_lt {n = w - top n} {m = top n} (omega (arith, top_twice n))

parts : (n w : ℕ) → w < cap n → integer (leb (top n) w) (w % top n) ≡ sign_read n w
unfolding sign_read times_sign
parts n w h = elim (dec_lt w (top n)) [
  | yes l ↦ rw (lt-leb (top n) w l, lt-ltb w (top n) l, mod-eq_of_lt {n = w} {m = top n} l)
  | no l ↦
      let g : top n ≤ w = omega arith in
      rw (le-leb (top n) w g, rest n w g h) (sym (read_minus n w g))
]

-- zero has a plus, unless the bits are minus zero
above : (n w : ℕ) → not_minus_zero n w ≡ true → top n ≤ w → top n < w
unfolding not_minus_zero
above n w c h = elim (dec_lt (top n) w) [ yes l ↦ l | no l ↦ absurd (true≢false (sym c ∙ ap not (eq-eqb w (top n) (omega arith)))) ]

minus_some : (m : ℕ) → 0 < m → record { minus = true; magnitude = m } ≡ signed_of (integer true m)
unfolding times_sign signed_of
minus_some zero h = absurd (omega arith)
minus_some (suc m) h = refl

plus_any : (m : ℕ) → record { minus = false; magnitude = m } ≡ signed_of (integer false m)
unfolding times_sign signed_of
plus_any m = refl

canonical : (n w : ℕ) → w < cap n → not_minus_zero n w ≡ true → Canonical (record { minus = leb (top n) w; magnitude = w % top n })
canonical n w h c = elim (dec_lt w (top n)) [
  | yes l ↦ rw (lt-leb (top n) w l) (plus_any (w % top n))
  | no l ↦
      let g = above n w c (omega arith) in
      rw (le-leb (top n) w (omega arith)) (minus_some (w % top n) (rw (rest n w (omega arith) h) (omega arith)))
]

pub overflow_sub-result : goal.overflow_sub-result
overflow_sub-result c = omega (arith, c.top-sign.ensures, top_pos c.args.level)

pub returns : goal.returns
returns c = let a = c.args in rw (c.top-sign.ensures, below a.level a.bits)
    (record { result_value = parts a.level a.bits c.requires.fact_2; magnitude_bound = mod-lt a.bits (top_pos a.level); canonical = canonical a.level a.bits c.requires.fact_2 })
