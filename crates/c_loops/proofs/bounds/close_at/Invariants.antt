use Rattle.std.proofs.Common.{◌≡◌, ◌≤◌, length}
use Rattle.c_grammar.specs.Loops.{close_at}
use Rattle.c_terminals.specs.Ahead.{ahead}
use Rattle.c_loops.proofs.bounds.close_at.Given as goal

abbrev pub invariant-tokens : goal.invariant-tokens
invariant-tokens l =
    (close_at l.len l.brackets (ahead l.ahead) ≡ close_at 0 0 (ahead l.fn.start)) × ((l.len ≤ 510) × (l.brackets ≤ l.len))

abbrev pub decreases-tokens : goal.decreases-tokens
decreases-tokens l = length (ahead l.ahead)
