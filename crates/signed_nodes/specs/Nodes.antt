-- The union of two blocks as it is made level by level, from the slots up. The code's own terms; no public contract cites them.
use Rattle.std.specs.Prelude.{ℕ, ◌+◌, ◌*◌, ◌^◌, ◌<◌, ◌≡◌, true, false, ◌||◌, ℤ, ◌+ℤ◌}
use Rattle.std.proofs.Math.IntN.{sub_ℕ}
use Rattle.group_layout.specs.Layout.{layout, marks}
use Rattle.group_layout.specs.Merged.{is_merged}
use Rattle.group_block.specs.Block.{cap, shape, number_of, total}
use Rattle.group_block.specs.Sum.{SumOf, fits, over, held, unite}
use Rattle.signed_block.specs.Signed.{signed}
use Rattle.signed_block.specs.Passed.{signed_block}
use Rattle.signed_nodes.specs.declared.Tried.{Tried}
use Rattle.signed_nodes.specs.declared.Node.{Node}

-- by how much a total of level n is raised
unfoldable pub bias : ℕ → ℕ
bias n = 2 ^ (32 + n)

abbrev pub Raised : ℕ → ℕ → ℤ → Type 0
Raised n a v = sub_ℕ a (bias n) ≡ v

-- of a block that is not merged, its total raised
abbrev pub RaisedApart : ℕ → ℕ → ℕ → ℕ → Type 0
RaisedApart n a w m = is_merged (layout n m) ≡ false → Raised n a (total (signed_block n w m))

-- a Sum as a flag and what is known where it is not set
unfoldable pub told : {n : ℕ} → SumOf signed n → Tried
told (fits b) = record { over = false; word = number_of b; merge = marks (shape b) }
told (over s) = record { over = true; word = 0; merge = 0 }

-- whether a Sum is over and, where it is not, the Sum
pub record Tells {n : ℕ} (s : Tried) (x : SumOf signed n) : Type 0 where
  pub whether : s.over ≡ (told x).over
  pub block : s.over ≡ false → s ≡ told x

abbrev pub passed : Node → Tried
passed s = record { over = s.over; word = s.word; merge = s.merge }

-- two blocks of level n, by their count bytes as numbers and their merge bits, and their union
pub record IsNode (n : ℕ) (s : Node) (w m w' m' : ℕ) : Type 0 where
  pub first : Raised n s.a (total (signed_block n w m))
  pub second : Raised n s.b (total (signed_block n w' m'))
  pub union : Tells (passed s) (unite (signed_block n w m) (signed_block n w' m'))

-- what is known of them by their halves, as far as they are not merged: where the union of two halves is over, so is `over`
pub record Sides (n : ℕ) (s : Node) (w m w' m' : ℕ) : Type 0 where
  pub first : RaisedApart n s.a w m
  pub second : RaisedApart n s.b w' m'
  pub one : is_merged (layout n m) ≡ false → is_merged (layout n m') ≡ false → s.over ≡ true
      → unite (signed_block n w m) (signed_block n w' m') ≡ held n (total (signed_block n w m) +ℤ total (signed_block n w' m'))
  pub both : is_merged (layout n m) ≡ false → is_merged (layout n m') ≡ false → s.over ≡ false
      → passed s ≡ told (unite (signed_block n w m) (signed_block n w' m'))

-- the unions of halves of level n side by side
pub record BesideAs (n : ℕ) (l r s : Tried) : Type 0 where
  pub either : s.over ≡ (l.over || r.over)
  pub words : l.word < cap n → r.word < cap n → s.word ≡ r.word * cap n + l.word
  pub merges : l.merge < 2 ^ (2 ^ n) → r.merge < 2 ^ (2 ^ n) → s.merge ≡ r.merge * 2 ^ (2 ^ n) + l.merge
