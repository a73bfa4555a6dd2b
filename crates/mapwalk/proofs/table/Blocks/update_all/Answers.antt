use Rattle.std.proofs.Common.{arith}
use Rattle.std.proofs.lemmas.Grind.{common_steps}
use Rattle.mapwalk.proofs.table.Blocks.update_all.Goals as goal

pub maps-preserved : goal.maps-preserved
maps-preserved c = grind (arith, common_steps)

pub returns-clause-row : goal.returns-clause-row
returns-clause-row c = grind (arith, common_steps)

pub returns-clause-seen : goal.returns-clause-seen
returns-clause-seen c = grind (arith, common_steps)
