use Rattle.group_layout.proofs.+code.Given as goal

abbrev pub decreases-code : goal.decreases-code
decreases-code l = l.level
