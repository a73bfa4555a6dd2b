use Rattle.std.proofs.Common.{◌≡◌, ◌++◌, false, length}
use Rattle.c_grammar.specs.DeclaredFunctions.{undeclared}
use Rattle.c_terminals.specs.Seen.{seen_all}
use Rattle.c_written.proofs.declared_functions.undeclared.Given as goal

abbrev pub invariant-tokens : goal.invariant-tokens
invariant-tokens l = seen_all l.done.items ++ undeclared l.inside (seen_all l.rest) ≡ undeclared false (seen_all l.fn.tokens)

abbrev pub decreases-tokens : goal.decreases-tokens
decreases-tokens l = length l.rest
