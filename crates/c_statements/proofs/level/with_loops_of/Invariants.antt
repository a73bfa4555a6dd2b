use Rattle.std.proofs.Common.{◌≡◌, ◌+◌}
use Rattle.c_statements.proofs.Loops.{loops_until}
use Rattle.c_statements.proofs.level.with_loops_of.Given as goal

abbrev pub invariant-names : goal.invariant-names
invariant-names l = l.count ≡ l.before + loops_until l.frame.names.items l.name-index
