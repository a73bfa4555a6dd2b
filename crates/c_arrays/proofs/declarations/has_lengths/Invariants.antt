use Rattle.std.proofs.Common.{◌≡◌}
use Rattle.c_grammar.specs.MainArrays.{has_lengths, max_lengths}
use Rattle.c_terminals.specs.Ahead.{ahead}
use Rattle.c_arrays.proofs.declarations.has_lengths.Given as goal

abbrev pub invariant-lengths : goal.invariant-lengths
invariant-lengths l = has_lengths l.left (ahead l.ahead) ≡ has_lengths max_lengths (ahead l.fn.start)

abbrev pub decreases-lengths : goal.decreases-lengths
decreases-lengths l = l.left
