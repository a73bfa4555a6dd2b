use Rattle.device.proofs.Choices.{nothing_after_the_end}
use Rattle.device.proofs.choosing.nothing_after_the_end.Goals as goal

pub returns : goal.returns
returns c = nothing_after_the_end
