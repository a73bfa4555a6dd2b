use Rattle.taskgraph.specs.Waiting.{AreClosed, board_of}
use Rattle.taskgraph.proofs.first_left.Given as goal

abbrev pub invariant-left : goal.invariant-left
invariant-left l = AreClosed (board_of l.tasks l.stages l.place) l.item
