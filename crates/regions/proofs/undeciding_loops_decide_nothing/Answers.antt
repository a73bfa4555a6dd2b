use Rattle.regions.proofs.Alike.{undeciding_loops_decide_nothing}
use Rattle.regions.proofs.undeciding_loops_decide_nothing.Goals as goal

pub returns : goal.returns
returns c = undeciding_loops_decide_nothing
