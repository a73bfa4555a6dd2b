use Rattle.std.proofs.Common.{◌≡◌, length}
use Rattle.c_grammar.specs.Types.{are_small}
use Rattle.c_terminals.specs.Ahead.{ahead}
use Rattle.c_types.specs.Found.{seen_found}
use Rattle.c_types.proofs.values.are_small.Given as goal

abbrev pub invariant-tokens : goal.invariant-tokens
invariant-tokens l = are_small (seen_found l.found) (ahead l.ahead) ≡ are_small (seen_found l.found) (ahead l.rest)

abbrev pub decreases-tokens : goal.decreases-tokens
decreases-tokens l = length (ahead l.ahead)
