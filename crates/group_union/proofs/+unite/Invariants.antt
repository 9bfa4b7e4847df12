use Rattle.group_union.proofs.+unite.Given as goal

abbrev pub decreases-unite : goal.decreases-unite
decreases-unite l = l.level
