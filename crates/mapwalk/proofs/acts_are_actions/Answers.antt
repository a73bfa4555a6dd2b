use Rattle.mapwalk.proofs.RowActions.{acts_are_actions}
use Rattle.mapwalk.proofs.acts_are_actions.Goals as goal

pub returns : goal.returns
returns c = acts_are_actions
