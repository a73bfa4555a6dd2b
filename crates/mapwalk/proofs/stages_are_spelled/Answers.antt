use Rattle.mapwalk.proofs.StageActions.{stages_are_spelled}
use Rattle.mapwalk.proofs.stages_are_spelled.Goals as goal

pub returns : goal.returns
returns c = stages_are_spelled
