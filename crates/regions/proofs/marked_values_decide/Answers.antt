use Rattle.regions.proofs.Alike.{marked_values_decide}
use Rattle.regions.proofs.marked_values_decide.Goals as goal

pub returns : goal.returns
returns c = marked_values_decide
