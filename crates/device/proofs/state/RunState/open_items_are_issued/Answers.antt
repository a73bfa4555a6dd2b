use Rattle.device.proofs.OpenFrames.{open_frame}
use Rattle.device.proofs.state.RunState.open_items_are_issued.Goals as goal

pub returns : goal.returns
returns c = open_frame c.self.inside c.args.self.now c.self.view_is c.self.invariant
