use Rattle.mapcheck.proofs.segments.Tree.+clear.Given as goal

abbrev pub decreases-clear : goal.decreases-clear
decreases-clear l = l.size
