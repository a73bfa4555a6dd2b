use Rattle.std.proofs.Common.{◌≡◌, drop}
use Rattle.c_terminals.specs.Ahead.{ahead}
use Rattle.c_written.proofs.heads.passed.Given as goal

abbrev pub invariant-tokens : goal.invariant-tokens
invariant-tokens l = drop l.left (ahead l.ahead) ≡ drop l.fn.len (ahead l.fn.start)

abbrev pub decreases-tokens : goal.decreases-tokens
decreases-tokens l = l.left
