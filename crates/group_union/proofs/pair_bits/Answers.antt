use mathlib.Core.Path.{ap, ◌∙◌}
use Prim.Native.Nat.{ℕ, ◌+◌, ◌*◌, ◌^◌, ◌<◌}
use Rattle.group_layout.specs.Layout.{merged, marks, ones}
use Rattle.group_layout.proofs.Laws.{marks_in}
use Rattle.group_union.proofs.pair_bits.Goals as goal

ones_in : (n : ℕ) → ones n < 2 ^ (2 ^ n)
unfolding marks
ones_in n = marks_in {n = n} merged

pub beside-requires : goal.beside-requires
beside-requires c = let n = c.args.half in rw c.ones-bits.ensures (record { fact_1 = c.requires; fact_2 = ones_in n; fact_3 = ones_in n })

pub returns : goal.returns
unfolding marks
returns c = let n = c.args.half in
    c.beside.ensures ∙ ap (λ (m : ℕ). m * 2 ^ (2 ^ n) + m) c.ones-bits.ensures
