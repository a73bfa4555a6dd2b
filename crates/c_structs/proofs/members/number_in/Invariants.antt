use Rattle.std.proofs.Common.{◌≡◌, length}
use Rattle.c_grammar.specs.Structs.{number_in}
use Rattle.c_terminals.specs.Ahead.{ahead}
use Rattle.c_structs.proofs.members.number_in.Given as goal

abbrev pub invariant-tokens : goal.invariant-tokens
invariant-tokens l = number_in l.number (ahead l.ahead) l.name ≡ number_in 0 (ahead l.members) l.name

abbrev pub decreases-tokens : goal.decreases-tokens
decreases-tokens l = length (ahead l.ahead)
