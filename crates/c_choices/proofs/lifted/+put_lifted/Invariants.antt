use Rattle.c_choices.proofs.lifted.+put_lifted.Given as goal

abbrev pub decreases-put_lifted : goal.decreases-put_lifted
decreases-put_lifted l = l.depth
