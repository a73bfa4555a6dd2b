use Rattle.std.proofs.Common.{◌≡◌, length}
use Rattle.c_grammar.specs.Macros.{are_given}
use Rattle.c_macros.specs.Macros.{lists_of, names_of}
use Rattle.c_macros.proofs.macros.are_given.Given as goal

abbrev pub invariant-names : goal.invariant-names
invariant-names l =
    are_given (names_of l.names) (lists_of l.lists) ≡ are_given (names_of l.fn.parameters) (lists_of l.fn.arguments)

abbrev pub decreases-names : goal.decreases-names
decreases-names l = length l.names
