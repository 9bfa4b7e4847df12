use Rattle.group_block.proofs.+unite.Given as goal

abbrev pub decreases-unite : goal.decreases-unite
decreases-unite g l = l.level
