-- What the code's addition asks of `join` and what `join` gives, in a block of two halves, for any kind of meter.
use Rattle.std.proofs.Common.{Result, Ok}
use mathlib.Core.Path.{◌≡◌, sym, ◌∙◌}
use mathlib.Core.Bool.{true, false}
use Prim.Native.Nat.{ℕ, ◌+◌, ◌-◌, ◌^◌, ◌≤◌, ◌<◌}
use native.Mathlib.Omega.{arith}
use lib.Dec.{ltb}
use Rattle.group_layout.specs.Layout.{layout}
use Rattle.group_block.specs.declared.Packed.{Packed}
use Rattle.group_block.specs.Kind.{Kind}
use Rattle.group_block.specs.Figure.{Coded}
use Rattle.group_block.specs.Block.{all_clean, block_as, total}
use Rattle.group_block.specs.Sum.{fits, join, add, sum_total}
use Rattle.group_block.specs.Passed.{summed_as, sum_as, Sane}
use Rattle.group_block.proofs.Adding.{Sound, add_total_of, add_sound}
use Rattle.group_block.proofs.Halves.{Apart, JoinAsked, join_asks, join_gives, apart_is, left_is, right_is, left_fits, right_fits}

module _ {K : Kind} {F : Type 0} {means : F → K.Value} {made : K.Value → F} (D : Coded K means made) {n w m : ℕ} {l r : Packed} (p : Apart n w m l r) (level : n ≤ 3) (h : Sane n w m) (c : all_clean K (layout n m) w ≡ true)
    (k : ℕ) (a : K.Value)
    (room : K.size (total (block_as K (n - 1) l.word l.merge)) + K.size a + K.size (total (block_as K (n - 1) r.word r.merge)) < 2 ^ 64) where
  module _ (s : Result Packed F) (s-is : s ≡ summed_as K made (add (block_as K (n - 1) l.word l.merge) k a)) where
    left_sound : Sound (add (block_as K (n - 1) l.word l.merge) k a)
    left_sound = add_sound (block_as K (n - 1) l.word l.merge) k a (left_fits p D h.0)

    pub left_join : JoinAsked D (n - 1) s (Ok r)
    unfolding Sound sum_total
    left_join =
        join_asks D _ (fits (block_as K (n - 1) r.word r.merge)) left_sound (right_fits p D h.0) s (Ok r) s-is (right_is p D h c) (omega arith)
        (rw (add_total_of D.sums (block_as K (n - 1) l.word l.merge) k a) (omega (arith, D.sums.triangle (total (block_as K (n - 1) l.word l.merge)) a)))

    pub left_sum : ltb k (2 ^ (n - 1)) ≡ true
        → summed_as K made (join (sum_as K means (n - 1) s) (sum_as K means (n - 1) (Ok r))) ≡ summed_as K made (add (block_as K n w m) k a)
    unfolding Sound add
    left_sum e =
        join_gives D _ (fits (block_as K (n - 1) r.word r.merge)) left_sound (right_fits p D h.0) s (Ok r) s-is (right_is p D h c)
        ∙ sym (apart_is p K (λ j b. summed_as K made (add b k a)) ∙ rw e)

  module _ (s : Result Packed F) (s-is : s ≡ summed_as K made (add (block_as K (n - 1) r.word r.merge) (k - 2 ^ (n - 1)) a)) where
    right_sound : Sound (add (block_as K (n - 1) r.word r.merge) (k - 2 ^ (n - 1)) a)
    right_sound = add_sound (block_as K (n - 1) r.word r.merge) (k - 2 ^ (n - 1)) a (right_fits p D h.0)

    pub right_join : JoinAsked D (n - 1) (Ok l) s
    unfolding Sound sum_total
    right_join =
        join_asks D (fits (block_as K (n - 1) l.word l.merge)) _ (left_fits p D h.0) right_sound (Ok l) s (left_is p D h c) s-is (omega arith)
        (rw (add_total_of D.sums (block_as K (n - 1) r.word r.merge) (k - 2 ^ (n - 1)) a) (omega (arith, D.sums.triangle (total (block_as K (n - 1) r.word r.merge)) a)))

    pub right_sum : ltb k (2 ^ (n - 1)) ≡ false
        → summed_as K made (join (sum_as K means (n - 1) (Ok l)) (sum_as K means (n - 1) s)) ≡ summed_as K made (add (block_as K n w m) k a)
    unfolding Sound add
    right_sum e =
        join_gives D (fits (block_as K (n - 1) l.word l.merge)) _ (left_fits p D h.0) right_sound (Ok l) s (left_is p D h c) s-is
        ∙ sym (apart_is p K (λ j b. summed_as K made (add b k a)) ∙ rw e)
