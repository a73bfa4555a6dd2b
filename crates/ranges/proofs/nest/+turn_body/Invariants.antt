use Rattle.ranges.proofs.nest.+turn_body.Given as goal

abbrev pub decreases-turn_body : goal.decreases-turn_body
decreases-turn_body l = l.depth
