use Rattle.std.proofs.Common.{◌≡◌, length}
use Rattle.c_grammar.specs.Structs.{count_in}
use Rattle.c_terminals.specs.Ahead.{ahead}
use Rattle.c_structs.proofs.members.count.Given as goal

abbrev pub invariant-tokens : goal.invariant-tokens
invariant-tokens l = count_in l.count (ahead l.ahead) ≡ count_in 0 (ahead l.members)

abbrev pub decreases-tokens : goal.decreases-tokens
decreases-tokens l = length (ahead l.ahead)
