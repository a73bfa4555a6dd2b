use Rattle.device.proofs.Choices.{few_events}
use Rattle.device.proofs.choosing.few_events.Goals as goal

pub returns : goal.returns
returns c = few_events
