use Rattle.lanes.proofs.Turns.{turns_apart}
use Rattle.lanes.proofs.turns_apart.Goals as goal

pub returns : goal.returns
returns c = turns_apart
