use Rattle.mapcheck.proofs.segments.Tree.+add.Given as goal

abbrev pub decreases-add : goal.decreases-add
decreases-add l = l.size
