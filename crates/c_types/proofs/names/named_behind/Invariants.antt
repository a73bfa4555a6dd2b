use Rattle.std.proofs.Common.{◌≡◌, length}
use Rattle.c_grammar.specs.Types.{named_behind}
use Rattle.c_terminals.specs.Ahead.{ahead}
use Rattle.c_types.proofs.names.named_behind.Given as goal

abbrev pub invariant-words : goal.invariant-words
invariant-words l = named_behind (ahead l.ahead) ≡ named_behind (ahead l.rest)

abbrev pub decreases-words : goal.decreases-words
decreases-words l = length (ahead l.ahead)
