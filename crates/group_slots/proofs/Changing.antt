-- Another value in one counter: the layout stays.
use mathlib.Core.Path.{◌≡◌, refl, ap}
use mathlib.Core.Bool.{Bool, true, false, cond}
use Prim.Native.Nat.{ℕ, suc, ◌-◌, ◌^◌}
use native.Mathlib.Nat.{mod-lt}
use lib.Dec.{ltb}
use Rattle.group_layout.specs.Layout.{halves}
use Rattle.group_block.specs.Block.{Block, counter, split, Fits, shape}
use Rattle.group_block.specs.Change.{change}
use Rattle.group_block.proofs.Laws.{cap_pos}

pub change_halves : {n : ℕ} (l r : Block n) (k x : ℕ) (P : Block (suc n) → Type 0)
    → (ltb k (2 ^ n) ≡ true → P (split (change l k x) r))
    → (ltb k (2 ^ n) ≡ false → P (split l (change r (k - 2 ^ n) x)))
    → P (change (split l r) k x)
unfolding change
change_halves {n} l r k x P f g = go (ltb k (2 ^ n)) refl
  where
    go : (b : Bool) → ltb k (2 ^ n) ≡ b → P (cond (ltb k (2 ^ n)) (split (change l k x) r) (split l (change r (k - 2 ^ n) x)))
    go true e = rw e (f e)
    go false e = rw e (g e)

pub change_fits : {n : ℕ} (b : Block n) (k x : ℕ) → Fits b → Fits (change b k x)
unfolding change Fits
change_fits {n} (counter v) k x f = mod-lt x (cap_pos n)
change_fits (split {n} l r) k x f =
    change_halves l r k x Fits (λ e. (change_fits l k x f.0, f.1)) (λ e. (f.0, change_fits r (k - 2 ^ n) x f.1))

pub change_shape : {n : ℕ} (b : Block n) (k x : ℕ) → shape (change b k x) ≡ shape b
unfolding change shape
change_shape (counter v) k x = refl
change_shape (split {n} l r) k x =
    change_halves l r k x (λ c. shape c ≡ halves (shape l) (shape r))
    (λ e. ap (λ L. halves L (shape r)) (change_shape l k x))
    (λ e. ap (halves (shape l)) (change_shape r (k - 2 ^ n) x))
