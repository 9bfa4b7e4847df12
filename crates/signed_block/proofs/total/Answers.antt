use Rattle.signed_block.proofs.Counters.{total_small}
use Rattle.signed_block.proofs.total.Goals as goal

pub returns : goal.returns
returns c = let a = c.args in record { result_value = c.total.ensures; magnitude_bound = total_small a.level a.word a.merge c.requires.1 c.total.result c.total.ensures }
