use Rattle.std.proofs.Common.{arith}
use Rattle.std.proofs.lemmas.Grind.{common_steps}
use Rattle.mapcheck.proofs.conflict.least_common.Goals as goal

pub returns-in-Section-Set : goal.returns-in-Section-Set
returns-in-Section-Set c = grind (arith, common_steps)

pub returns-in-Set-Section : goal.returns-in-Set-Section
returns-in-Set-Section c = grind (arith, common_steps)

pub returns-in-Set-Set : goal.returns-in-Set-Set
returns-in-Set-Set c = grind (arith, common_steps)
