use Rattle.std.proofs.Common.{arith}
use Rattle.std.proofs.lemmas.Grind.{common_steps}
use Rattle.device.proofs.state.number_of.Goals as goal

pub bounds-section-0 : goal.bounds-section-0
bounds-section-0 c = grind (arith, common_steps)
