use Rattle.std.proofs.Common.{arith, refl}
use Rattle.c_read.proofs.Naming.{begun_array, array_named}
use Rattle.c_read.proofs.array.begin_array.Goals as goal

pub returns-clause-scope : goal.returns-clause-scope
returns-clause-scope c =
    array_named c.args.name.now _ c.args.scope.now c.declare.new.self refl c.in_ok-declare.ensures.declared
    c.in_ok-declare.ensures.names c.declare.ensures.next

pub returns-clause-read : goal.returns-clause-read
returns-clause-read c = grind (arith, begun_array)
