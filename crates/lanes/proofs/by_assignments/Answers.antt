use Rattle.lanes.proofs.Assignments.{by_assignments}
use Rattle.lanes.proofs.by_assignments.Goals as goal

pub returns : goal.returns
returns c = by_assignments
