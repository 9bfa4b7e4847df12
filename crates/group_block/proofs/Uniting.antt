-- What the code's union asks of `join` and what `join` gives, in blocks of two halves, for any kind of meter.
use Rattle.std.proofs.Common.{Result}
use mathlib.Core.Path.{◌≡◌, refl, sym, ◌∙◌}
use Prim.Native.Nat.{ℕ, ◌+◌, ◌-◌, ◌^◌, ◌≤◌, ◌<◌}
use native.Mathlib.Omega.{arith}
use Rattle.group_block.specs.declared.Packed.{Packed}
use Rattle.group_block.specs.Kind.{Kind}
use Rattle.group_block.specs.Figure.{Coded}
use Rattle.group_block.specs.Block.{BlockOf, counter, split, cap, block_as, total}
use Rattle.group_block.specs.Sum.{held, join, unite}
use Rattle.group_block.specs.Passed.{summed_as, sum_as}
use Rattle.group_block.proofs.Adding.{Sound, unite_total_of, unite_sound}
use Rattle.group_block.proofs.Halves.{Apart, JoinAsked, both_apart, join_asks, join_gives, left_fits, right_fits}

-- a union with one counter
pub unite_counter : {K : Kind} {n : ℕ} (x : BlockOf K n) (v : K.Value) → unite x (counter v) ≡ held n (K.plus (total x) v)
unfolding unite total
unite_counter (counter u) v = refl
unite_counter (split l r) v = refl

module _ {K : Kind} {F : Type 0} {means : F → K.Value} {made : K.Value → F} (D : Coded K means made) {n w m w' m' : ℕ} {l r l' r' : Packed} (p : Apart n w m l r) (q : Apart n w' m' l' r') (level : n ≤ 3) (h : w < cap n) (h' : w' < cap n) where
  -- the union of the left halves, and that of the right
  abbrev lefts : (k : ℕ) → BlockOf K k × BlockOf K k
  lefts k = (block_as K k l.word l.merge, block_as K k l'.word l'.merge)

  abbrev rights : (k : ℕ) → BlockOf K k × BlockOf K k
  rights k = (block_as K k r.word r.merge, block_as K k r'.word r'.merge)

  module _ (s t : Result Packed F) (s-is : s ≡ summed_as K made (unite (lefts (n - 1)).0 (lefts (n - 1)).1))
      (t-is : t ≡ summed_as K made (unite (rights (n - 1)).0 (rights (n - 1)).1)) where
    lefts_sound : Sound (unite (lefts (n - 1)).0 (lefts (n - 1)).1)
    lefts_sound = unite_sound (lefts (n - 1)).0 (lefts (n - 1)).1 (left_fits p D h) (left_fits q D h')

    rights_sound : Sound (unite (rights (n - 1)).0 (rights (n - 1)).1)
    rights_sound = unite_sound (rights (n - 1)).0 (rights (n - 1)).1 (right_fits p D h) (right_fits q D h')

    pub both_join : K.size (total (lefts (n - 1)).0) + K.size (total (lefts (n - 1)).1) + (K.size (total (rights (n - 1)).0) + K.size (total (rights (n - 1)).1)) < 2 ^ 64
        → JoinAsked D (n - 1) s t
    both_join room =
        join_asks D _ _ lefts_sound rights_sound s t s-is t-is (omega arith)
        (rw (unite_total_of D.sums (lefts (n - 1)).0 (lefts (n - 1)).1, unite_total_of D.sums (rights (n - 1)).0 (rights (n - 1)).1)
        (omega (
          arith,
          D.sums.triangle (total (lefts (n - 1)).0) (total (lefts (n - 1)).1),
          D.sums.triangle (total (rights (n - 1)).0) (total (rights (n - 1)).1),
        )))

    pub both_sum : summed_as K made (join (sum_as K means (n - 1) s) (sum_as K means (n - 1) t)) ≡ summed_as K made (unite (block_as K n w m) (block_as K n w' m'))
    unfolding unite
    both_sum =
        join_gives D _ _ lefts_sound rights_sound s t s-is t-is
        ∙ sym (both_apart K p q (λ j b c. summed_as K made (unite b c)))
