use native.Mathlib.Omega.{arith}
use mathlib.Core.Path.{sym, ◌∙◌}
use Rattle.group_layout.proofs.Laws.{above_slot}
use Rattle.group_block.specs.Block.{total as total_of}
use Rattle.group_block.proofs.Laws.{block_merged}
use Rattle.group_union.proofs.Pairs.{pair_total}
use Rattle.group_union.proofs.block_total.Goals as goal

-- src/lib.rt:62:9
pub returns-then-is_merged : goal.returns-then-is_merged
unfolding total_of
returns-then-is_merged c = let a = c.args in
    rw (block_merged a.level a.word a.merge (sym c.is_merged.ensures ∙ c.if-is_merged.true))

-- src/lib.rt:64:16
pub overflow_sub-half : goal.overflow_sub-half
overflow_sub-half c = omega (arith, above_slot c.args.level c.args.merge (sym c.is_merged.ensures ∙ c.if-is_merged.false))

-- src/lib.rt:66:9
pub returns-then-merge-pair_bits : goal.returns-then-merge-pair_bits
returns-then-merge-pair_bits c = let a = c.args in
    c.pair_sum.ensures
    ∙ pair_total a.level a.word a.merge (above_slot a.level a.merge (sym c.is_merged.ensures ∙ c.if-is_merged.false))
    (c.if-merge-pair_bits.true ∙ c.pair_bits.ensures)
