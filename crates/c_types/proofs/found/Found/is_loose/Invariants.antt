use Rattle.std.proofs.Common.{◌≡◌, length}
use Rattle.c_grammar.specs.Types.{is_loose}
use Rattle.c_terminals.specs.Ahead.{ahead}
use Rattle.c_types.specs.Found.{seen_found}
use Rattle.c_types.proofs.found.Found.is_loose.Given as goal

abbrev pub invariant-tokens : goal.invariant-tokens
invariant-tokens l = is_loose (seen_found l.self) (ahead l.ahead) ≡ is_loose (seen_found l.self) (ahead l.rest)

abbrev pub decreases-tokens : goal.decreases-tokens
decreases-tokens l = length (ahead l.ahead)
