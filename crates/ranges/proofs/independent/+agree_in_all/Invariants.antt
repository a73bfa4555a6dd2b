use Rattle.ranges.proofs.independent.+agree_in_all.Given as goal

abbrev pub decreases-agree_in_all : goal.decreases-agree_in_all
decreases-agree_in_all l = l.depth
