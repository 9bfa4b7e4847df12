use mathlib.Core.Path.{ap, ◌∙◌}
use Prim.Native.Nat.{ℕ, ◌-◌, ◌/◌, ◌^◌}
use lib.Bits.{and_mask}
use lib.Dec.{eqb}
use Rattle.group_layout.specs.Layout.{bit}
use Rattle.group_layout.proofs.own_bit.Goals as goal

pub returns : goal.returns
unfolding bit
returns c = let m = c.args.merge in
    ap (λ (x : ℕ). eqb x 1) (and_mask (m / 2 ^ (c.slots-place.result - 1)) 1)
    ∙ ap (λ (k : ℕ). bit m (k - 1)) c.slots-place.ensures.value
