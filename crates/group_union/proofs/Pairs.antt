-- Two blocks of two counters each, united where a sum is too large for its counter: the union is one counter. For any level.
use mathlib.Core.Path.{◌≡◌, refl, sym, ap, ◌∙◌}
use mathlib.Core.Bool.{false, ◌&&◌, true≢false}
use Prim.Native.Nat.{ℕ, zero, suc, ◌+◌, ◌-◌, ◌/◌, ◌%◌, ◌<◌}
use native.Mathlib.Numerals.{sub-one}
use native.Mathlib.Omega.{arith}
use borrow.Author.Tests.{eq-eqb}
use lib.Dec.{eqb}
use Rattle.group_layout.specs.Layout.{merged, halves, marks}
use Rattle.group_layout.proofs.Laws.{layout_marks}
use Rattle.group_block.specs.Kind.{ordinary}
use Rattle.group_block.specs.Block.{counter, split, cap, shape, fill, block, total, block_as}
use Rattle.group_block.specs.Sum.{Sum, fits, held, join, unite}
use Rattle.group_block.proofs.Adding.{held_cases, held_total}
use Rattle.group_union.specs.Passed.{keeps}

-- the merge bits of two counters of level n
abbrev pub pair : ℕ → ℕ
pair n = marks (halves {n = n} merged merged)

pair_block : (n w : ℕ) → block (suc n) w (pair n) ≡ split (counter (w % cap n)) (counter (w / cap n))
unfolding block_as fill
pair_block n w = rw (layout_marks (halves {n = n} merged merged))

-- either the union is two counters too, or one of them is over
unite_pairs : {n : ℕ} (a b c d : ℕ) → let u = unite (split {n = n} (counter a) (counter b)) (split (counter c) (counter d)) in
    keeps (pair n) u ≡ false → u ≡ held (suc n) (a + b + (c + d))
unfolding unite total join shape
unite_pairs {n} a b c d =
    held_cases n (a + c) (λ x. Widens x (held n (b + d)))
    (λ h. held_cases n (b + d) (Widens (fits (counter (a + c))))
    (λ k e. absurd (true≢false (sym (eq-eqb (pair n) (pair n) refl) ∙ e)))
    (λ k e. ap (held (suc n)) (omega arith)))
    (λ h e. ap (held (suc n)) (omega (arith, held_total ordinary n (b + d))))
  where
    Widens : Sum n → Sum n → Type 0
    Widens x y = keeps (pair n) (join x y) ≡ false → join x y ≡ held (suc n) (a + b + (c + d))

-- the level is n - 1, and n is its successor only by a proof
pub pair_total : (n w m : ℕ) → 0 < n → m ≡ pair (n - 1) → w % cap (n - 1) + w / cap (n - 1) ≡ total (block n w m)
unfolding total
pair_total zero w m h e = absurd (omega arith)
pair_total (suc n) w m h e = rw (e, sub-one (suc n), pair_block n w)

pub pairs_unite : (n w m w' m' : ℕ) → 0 < n → m ≡ pair (n - 1) → m' ≡ pair (n - 1) → (eqb m m' && keeps m (unite (block n w m) (block n w' m'))) ≡ false
    → unite (block n w m) (block n w' m') ≡ held n (total (block n w m) + total (block n w' m'))
unfolding total
pairs_unite zero w m w' m' h e e' k = absurd (omega arith)
pairs_unite (suc n) w m w' m' h e e' k =
    rw (e, e', sub-one (suc n), pair_block n w, pair_block n w')
    (unite_pairs (w % cap n) (w / cap n) (w' % cap n) (w' / cap n)
    (rw (e, e', sub-one (suc n), eq-eqb (pair n) (pair n) refl, pair_block n w, pair_block n w') at k))
