use Rattle.std.proofs.Common.{◌≡◌, length}
use Rattle.c_grammar.specs.Moves.{stands}
use Rattle.c_terminals.specs.Ahead.{ahead}
use Rattle.c_written.proofs.moves.stands.Given as goal

abbrev pub invariant-tokens : goal.invariant-tokens
invariant-tokens l = stands l.name (ahead l.ahead) ≡ stands l.name (ahead l.rest)

abbrev pub decreases-tokens : goal.decreases-tokens
decreases-tokens l = length (ahead l.ahead)
