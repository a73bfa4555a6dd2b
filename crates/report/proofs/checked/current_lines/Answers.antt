use Rattle.std.proofs.Common.{arith}
use Rattle.std.proofs.lemmas.Grind.{common_steps}
use Rattle.report.proofs.checked.current_lines.Goals as goal

pub arrays-preserved : goal.arrays-preserved
arrays-preserved c = grind (arith, common_steps)

pub returns : goal.returns
returns c = grind (arith, common_steps)
