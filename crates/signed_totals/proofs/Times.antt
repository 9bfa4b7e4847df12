-- Blocks times a sign: what their counters hold, and a block taken away from itself.
use mathlib.Core.Path.{◌≡◌, sym, ap, ◌∙◌}
use mathlib.Core.Bool.{Bool, true}
use Prim.Native.Nat.{ℕ, suc, ◌+◌, ◌*◌}
use lib.IntN.{+ℤ_invr}
use Rattle.group_block.specs.Block.{BlockOf, counter, split, shape, total}
use Rattle.group_block_laws.specs.Least.{Suits}
use Rattle.group_block_laws.specs.Counts.{Totals, Adds, Counts}
use Rattle.signed_number.specs.Number.{times_sign}
use Rattle.signed_number.proofs.Integers.{times_plus}
use Rattle.signed_block.specs.Signed.{signed, times_block}
use Rattle.signed_block.proofs.Counters.{top_pos}

-- totals times a sign
module _ (minus : Bool) (t u : Totals signed) (times : (n i : ℕ) → u n i ≡ times_sign minus (t n i)) where
  pub times_adds : Adds signed t → Adds signed u
  times_adds adds n i =
      rw (times (suc n) i, adds n i, times_plus minus (t n (2 * i)) (t n (2 * i + 1)), ← times n (2 * i), ← times n (2 * i + 1))

  pub times_counts : {n : ℕ} (i : ℕ) (b : BlockOf signed n) → Counts t i b → Counts u i (times_block minus b)
  unfolding Counts times_block
  times_counts {n} i (counter v) c = ap (times_sign minus) c ∙ sym (times n i)
  times_counts i (split l r) c = (times_counts (2 * i) l c.0, times_counts (2 * i + 1) r c.1)

-- a block's counters hold what is left of it taken away from itself: zeros
pub suits_itself : {n : ℕ} (b : BlockOf signed n) → Suits (shape b) b (times_block true b)
unfolding Suits shape times_block times_sign total
suits_itself {n} (counter v) = rw (+ℤ_invr v) (top_pos n)
suits_itself (split l r) = (suits_itself l, suits_itself r)
