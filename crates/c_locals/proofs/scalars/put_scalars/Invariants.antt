use Rattle.std.proofs.Common.{◌≡◌, ◌++◌}
use Rattle.c_grammar.specs.Locals.{scalars}
use Rattle.c_terminals.specs.Seen.{seen, seen_all}
use Rattle.c_locals.proofs.scalars.put_scalars.Given as goal

abbrev pub invariant-cells : goal.invariant-cells
invariant-cells l =
    seen_all l.done.items ++ scalars (seen l.token) (seen l.named) l.cell l.left
    ≡ seen_all l.fn.done.items ++ scalars (seen l.fn.token) (seen l.fn.named) l.fn.first l.fn.len

abbrev pub decreases-cells : goal.decreases-cells
decreases-cells l = l.left
