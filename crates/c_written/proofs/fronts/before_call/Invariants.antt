use Rattle.std.proofs.Common.{◌≡◌, length}
use Rattle.c_grammar.specs.Functions.{before_call}
use Rattle.c_terminals.specs.Ahead.{ahead}
use Rattle.c_written.proofs.fronts.before_call.Given as goal

abbrev pub invariant-tokens : goal.invariant-tokens
invariant-tokens l = before_call l.count (ahead l.ahead) ≡ before_call 0 (ahead l.fn.start)

abbrev pub decreases-tokens : goal.decreases-tokens
decreases-tokens l = length (ahead l.ahead)
