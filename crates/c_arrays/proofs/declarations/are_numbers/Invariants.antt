use Rattle.std.proofs.Common.{◌≡◌, length}
use Rattle.c_grammar.specs.MainArrays.{are_numbers}
use Rattle.c_terminals.specs.Ahead.{ahead}
use Rattle.c_arrays.proofs.declarations.are_numbers.Given as goal

abbrev pub invariant-numbers : goal.invariant-numbers
invariant-numbers l = are_numbers (ahead l.ahead) ≡ are_numbers (ahead l.fn.start)

abbrev pub decreases-numbers : goal.decreases-numbers
decreases-numbers l = length (ahead l.ahead)
