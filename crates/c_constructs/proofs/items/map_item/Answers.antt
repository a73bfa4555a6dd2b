use Rattle.c_constructs.proofs.Growing.{grows_map}
use Rattle.std.proofs.Common.{arith}
use Rattle.std.proofs.lemmas.Grind.{common_steps}
use Rattle.c_constructs.proofs.items.map_item.Goals as goal

pub returns-in_err-section-clause-told : goal.returns-in_err-section-clause-told
returns-in_err-section-clause-told g c = grind (arith, common_steps)

pub returns-clause-told : goal.returns-clause-told
returns-clause-told g c = grind (arith, common_steps)

pub returns-clause-means : goal.returns-clause-means
returns-clause-means g c = grind (arith, grows_map)
