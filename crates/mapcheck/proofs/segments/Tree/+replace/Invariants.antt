use Rattle.mapcheck.proofs.segments.Tree.+replace.Given as goal

abbrev pub decreases-replace : goal.decreases-replace
decreases-replace l = l.size
