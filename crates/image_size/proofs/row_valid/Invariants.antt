use mathlib.Core.Path.{◌≡◌}
use lib.ListN.{drop}
use Rattle.std.specs.Slice.Iter.{chunks_rest, chunks_size}
use Rattle.image_format.specs.Write.{all_valid}
use Rattle.image_size.proofs.row_valid.Given as goal

abbrev pub invariant-loop-four : goal.invariant-loop-four
invariant-loop-four l =
    (goal.iterator-loop-four).can_next l.four-iterator × (goal.iterator-loop-four).is_finite l.four-iterator
    × (chunks_size l.four-iterator ≡ 4) × (all_valid (chunks_rest l.four-iterator) ≡ all_valid (drop l.w l.row))
