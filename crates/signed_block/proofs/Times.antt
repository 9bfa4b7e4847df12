-- Every counter of a block times a sign.
use mathlib.Core.Path.{◌≡◌, refl, ap₂}
use mathlib.Core.Bool.{Bool, false}
use Prim.Native.Nat.{ℕ}
use lib.IntN.{ℤ, ◌+ℤ◌}
use Rattle.group_layout.specs.Layout.{halves}
use Rattle.group_block.specs.Block.{BlockOf, counter, split, Fits, shape, total}
use Rattle.signed_number.specs.Number.{times_sign}
use Rattle.signed_number.proofs.Integers.{abs_times, times_plus}
use Rattle.signed_block.specs.Signed.{signed, times_block}

-- the layout stays
pub times_shape : (minus : Bool) {n : ℕ} (b : BlockOf signed n) → shape (times_block minus b) ≡ shape b
unfolding times_block shape
times_shape minus (counter v) = refl
times_shape minus (split l r) = ap₂ halves (times_shape minus l) (times_shape minus r)

-- every counter holds its value
pub times_fits : (minus : Bool) {n : ℕ} (b : BlockOf signed n) → Fits b → Fits (times_block minus b)
unfolding times_block Fits
times_fits minus (counter v) f = rw (abs_times minus v) f
times_fits minus (split l r) f = (times_fits minus l f.0, times_fits minus r f.1)

-- the total is that of the block times the sign
pub times_total : (minus : Bool) {n : ℕ} (b : BlockOf signed n) → total (times_block minus b) ≡ times_sign minus (total b)
unfolding times_block total
times_total minus (counter v) = refl
times_total minus (split l r) =
    rw (times_plus minus (total l) (total r)) (ap₂ (λ (x y : ℤ). x +ℤ y) (times_total minus l) (times_total minus r))

-- with a plus, the block
pub times_none : {n : ℕ} (b : BlockOf signed n) → times_block false b ≡ b
unfolding times_block times_sign
times_none (counter v) = refl
times_none (split l r) = ap₂ split (times_none l) (times_none r)
