use Rattle.actions.proofs.nest.+turn_at.Given as goal

abbrev pub decreases-turn_at : goal.decreases-turn_at
decreases-turn_at l = l.depth
