use Rattle.group_block.specs.Sum.{sum_total}
use Rattle.group_block.specs.Passed.{sum_as}
use Rattle.group_block.proofs.sum_total.Goals as goal

pub returns-in-Ok : goal.returns-in-Ok
unfolding sum_as sum_total
returns-in-Ok g c = rw c.in-Ok.is c.total.ensures

pub returns-in-Err : goal.returns-in-Err
unfolding sum_as sum_total
returns-in-Err g c = rw c.in-Err.is
