use Rattle.std.proofs.Common.{arith}
use Rattle.c_statements.proofs.Loops.{loop_fits}
use Rattle.c_statements.proofs.level.with_loops_of.Goals as goal

pub overflow_add-count : goal.overflow_add-count
overflow_add-count c = omega (
  arith,
  loop_fits c.args.frame.now.names.items c.deref-name-items.result.now
      c.names.name-index c.in-Loop.field-0 c.names.count c.args.before 16384 _ c.deref-name-items.ensures.value
      c.names-test.true c.in-Loop.is c.names.invariant c.requires,
)
