-- What the code's union asks of its recursive calls, in blocks of two halves.
use Prim.Native.Nat.{ℕ, ◌+◌, ◌-◌, ◌^◌, ◌≤◌, ◌<◌}
use native.Mathlib.Omega.{arith}
use Rattle.group_block.specs.declared.Packed.{Packed}
use Rattle.group_block.specs.Block.{block, total}
use Rattle.group_block.specs.Passed.{Sane}
use Rattle.group_block.specs.Figure.{ordinary_coded}
use Rattle.group_block.proofs.Halves.{Apart, left_sane, right_sane, total_apart}

-- what the code's recursive calls ask of halves
abbrev pub BothAsked : ℕ → Packed → Packed → Type 0
BothAsked n s t =
    (n ≤ 3)
    × (Sane n s.word s.merge
    × (Sane n t.word t.merge × (total (block n s.word s.merge) + total (block n t.word t.merge) < 2 ^ 64)))

module _ {n w m w' m' : ℕ} {l r l' r' : Packed} (p : Apart n w m l r) (q : Apart n w' m' l' r') (sum : total (block n w m) + total (block n w' m') < 2 ^ 64) where
  -- all counters sum up to a number of 64 bits
  pub halves_room : total (block (n - 1) l.word l.merge) + total (block (n - 1) l'.word l'.merge)
      + (total (block (n - 1) r.word r.merge) + total (block (n - 1) r'.word r'.merge)) < 2 ^ 64
  halves_room = omega (arith, total_apart p ordinary_coded, total_apart q ordinary_coded)

  module _ (level : n ≤ 3) (h : Sane n w m) (h' : Sane n w' m') where
    pub lefts_asked : BothAsked (n - 1) l l'
    lefts_asked = (omega arith, (left_sane p h, (left_sane q h', omega (arith, halves_room))))

    pub rights_asked : BothAsked (n - 1) r r'
    rights_asked = (omega arith, (right_sane p h, (right_sane q h', omega (arith, halves_room))))
