use Rattle.std.proofs.Common.{◌≡◌, length}
use Rattle.c_grammar.specs.Allocations.{is_named}
use Rattle.c_terminals.specs.Ahead.{ahead}
use Rattle.c_arrays.proofs.arrays.is_named.Given as goal

abbrev pub invariant-tokens : goal.invariant-tokens
invariant-tokens l = is_named l.name (ahead l.ahead) ≡ is_named l.name (ahead l.fn.start)

abbrev pub decreases-tokens : goal.decreases-tokens
decreases-tokens l = length (ahead l.ahead)
