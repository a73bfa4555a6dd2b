use Rattle.ranges.proofs.nest.+turns_up_to_two.Given as goal

abbrev pub decreases-turns_up_to_two : goal.decreases-turns_up_to_two
decreases-turns_up_to_two l = l.depth
