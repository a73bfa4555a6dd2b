use Rattle.c_constructs.proofs.Directives.{wait_types, update_types, exit_types, enter_types}
use Rattle.std.proofs.Common.{arith}
use Rattle.c_constructs.proofs.resolved.alone_at.Goals as goal

pub clauses_of-requires : goal.clauses_of-requires
clauses_of-requires c = grind (arith, enter_types)

pub clauses_of-requires-in-TargetExitData : goal.clauses_of-requires-in-TargetExitData
clauses_of-requires-in-TargetExitData c = grind (arith, exit_types)

pub clauses_of-requires-in-TargetUpdate : goal.clauses_of-requires-in-TargetUpdate
clauses_of-requires-in-TargetUpdate c = grind (arith, update_types)

pub clauses_of-requires-in-TaskWait : goal.clauses_of-requires-in-TaskWait
clauses_of-requires-in-TaskWait c = grind (arith, wait_types)
