use Rattle.ranges.proofs.RunsUnique.{one_list}
use Rattle.ranges.proofs.run_list.runs_are_unique.Goals as goal

pub returns : goal.returns
returns c = one_list
