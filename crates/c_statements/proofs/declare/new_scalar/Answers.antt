use Rattle.std.proofs.Common.{◌+◌}
use Rattle.c_statements.proofs.Locals.{scalar_declared}
use Rattle.c_statements.proofs.declare.new_scalar.Goals as goal

pub returns-clause-context : goal.returns-clause-context
returns-clause-context c =
    scalar_declared c.args.scope.now c.declare.new.self c.args.name.now c.scalar_or_box.result
    (record { 0 = c.args.scope.now.scalars }) c.is_inside-inside.result c.args.boxed
    (c.args.scope.now.scalars + 1) c.scalar_or_box.ensures c.is_inside-inside.ensures
    (c.in_ok-declare.ensures.declared 0 0)
