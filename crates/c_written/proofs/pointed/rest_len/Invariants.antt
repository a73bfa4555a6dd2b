use Rattle.std.proofs.Common.{◌≡◌, length}
use Rattle.c_grammar.specs.Pointers.{rest_len}
use Rattle.c_terminals.specs.Ahead.{ahead}
use Rattle.c_written.proofs.pointed.rest_len.Given as goal

abbrev pub invariant-tokens : goal.invariant-tokens
invariant-tokens l = rest_len l.len (ahead l.ahead) ≡ rest_len 0 (ahead l.start)

abbrev pub decreases-tokens : goal.decreases-tokens
decreases-tokens l = length (ahead l.ahead)
