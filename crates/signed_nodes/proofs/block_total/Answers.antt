use mathlib.Core.Path.{sym, ◌∙◌}
use Rattle.signed_block.proofs.Counters.{total_merged}
use Rattle.signed_nodes.proofs.block_total.Goals as goal

pub returns-then-is_merged : goal.returns-then-is_merged
returns-then-is_merged c = let a = c.args in
    c.raised.ensures ∙ total_merged a.level a.word a.merge (sym c.is_merged.ensures ∙ c.if-is_merged.true)

pub returns : goal.returns
returns c = c.requires.fact_3 (sym c.is_merged.ensures ∙ c.if-is_merged.false)
