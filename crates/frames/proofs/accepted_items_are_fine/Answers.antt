use Rattle.frames.proofs.AcceptedWorks.{accepted_items_are_fine}
use Rattle.frames.proofs.accepted_items_are_fine.Goals as goal

pub returns : goal.returns
returns c = accepted_items_are_fine
