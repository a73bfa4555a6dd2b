use Rattle.std.proofs.Common.{arith}
use Rattle.std.proofs.lemmas.Grind.{common_steps}
use Rattle.device.proofs.state.RunState.event_of.Goals as goal

pub returns-then-item-items : goal.returns-then-item-items
returns-then-item-items c = grind (arith, common_steps)

pub returns-else-item-items : goal.returns-else-item-items
returns-else-item-items c = grind (arith, common_steps)
