use Rattle.std.proofs.Common.{◌≡◌, length}
use Rattle.c_grammar.specs.Structs.{ends_length}
use Rattle.c_terminals.specs.Ahead.{ahead}
use Rattle.c_structs.proofs.declarations.ends_length.Given as goal

abbrev pub invariant-tokens : goal.invariant-tokens
invariant-tokens l = ends_length l.depth (ahead l.ahead) ≡ ends_length l.depth (ahead l.start)

abbrev pub decreases-tokens : goal.decreases-tokens
decreases-tokens l = length (ahead l.ahead)
