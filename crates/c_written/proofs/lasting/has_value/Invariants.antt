use Rattle.std.proofs.Common.{◌≡◌, length}
use Rattle.c_grammar.specs.Lasting.{has_value}
use Rattle.c_terminals.specs.Ahead.{ahead}
use Rattle.c_written.proofs.lasting.has_value.Given as goal

abbrev pub invariant-tokens : goal.invariant-tokens
invariant-tokens l = has_value (ahead l.ahead) ≡ has_value (ahead l.fn.start)

abbrev pub decreases-tokens : goal.decreases-tokens
decreases-tokens l = length (ahead l.ahead)
