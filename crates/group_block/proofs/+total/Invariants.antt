use Rattle.group_block.proofs.+total.Given as goal

abbrev pub decreases-total : goal.decreases-total
decreases-total g l = l.level
