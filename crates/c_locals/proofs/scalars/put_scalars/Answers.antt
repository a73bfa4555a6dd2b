use Rattle.std.proofs.Common.{◌++◌, arith}
use Rattle.c_grammar.specs.Locals.{scalars}
use Rattle.c_terminals.specs.Seen.{seen, seen_all}
use Rattle.c_locals.proofs.Counting.{next_cell}
use Rattle.c_locals.proofs.scalars.put_scalars.Goals as goal

pub cells-preserved : goal.cells-preserved
cells-preserved c =
    next_cell (seen c.args.token) (seen c.args.named) c.cells.cell c.in_ok-cell.cell c.cells.left (seen_all c.cells.done.items)
    (seen_all c.put_scalar.new.done.items)
    (seen_all c.args.done.now.items ++ scalars (seen c.args.token) (seen c.args.named) c.args.first c.args.len)
    (omega (arith, c.cells-test.true)) c.in_ok-cell.ensures c.in_ok-put_scalar.ensures c.cells.invariant
