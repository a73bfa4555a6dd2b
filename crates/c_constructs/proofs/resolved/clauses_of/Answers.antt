use Rattle.c_constructs.proofs.Directives.{all_told, all_failed}
use Rattle.std.proofs.Common.{arith}
use Rattle.c_constructs.proofs.resolved.clauses_of.Goals as goal

pub returns-clause-told : goal.returns-clause-told
returns-clause-told g c = grind (arith, all_told, all_failed)
