use Rattle.group_block.proofs.+add.Given as goal

abbrev pub decreases-add : goal.decreases-add
decreases-add g l = l.level
