use Rattle.c_constructs.proofs.Directives.{over_types}
use Rattle.std.proofs.Common.{arith}
use Rattle.c_constructs.proofs.resolved.construct_at.Goals as goal

pub clauses_of-requires : goal.clauses_of-requires
clauses_of-requires c = grind (arith, over_types)
