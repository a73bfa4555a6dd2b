use Rattle.device.proofs.Choices.{nothing_only_at_the_end}
use Rattle.device.proofs.choosing.nothing_only_at_the_end.Goals as goal

pub returns : goal.returns
returns c = nothing_only_at_the_end
