use Rattle.std.proofs.Common.{arith}
use Rattle.std.proofs.lemmas.Grind.{common_steps}
use Rattle.mapwalk.proofs.current.act.Goals as goal

pub copy_section-requires : goal.copy_section-requires
copy_section-requires c = grind (arith, common_steps)

pub copy_section-requires-then-acts-3 : goal.copy_section-requires-then-acts-3
copy_section-requires-then-acts-3 c = grind (arith, common_steps)

pub returns-then-acts-4-clause-shown : goal.returns-then-acts-4-clause-shown
returns-then-acts-4-clause-shown c = grind (arith, common_steps)

pub returns-else-acts-4-clause-shown : goal.returns-else-acts-4-clause-shown
returns-else-acts-4-clause-shown c = grind (arith, common_steps)
