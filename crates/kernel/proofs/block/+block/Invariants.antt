use Rattle.kernel.proofs.Bodies.{Doing}
use Rattle.kernel.proofs.block.+block.Given as goal

abbrev pub invariant-do_body-loop-s : goal.invariant-do_body-loop-s
invariant-do_body-loop-s l = Doing l.at l.body l.initial.lanes.items l.initial.rows l.s-index l.lanes.items l.rows
