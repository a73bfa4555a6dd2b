use Rattle.std.proofs.Common.{◌≡◌, length}
use Rattle.c_grammar.specs.Macros.{argument_for}
use Rattle.c_macros.specs.Macros.{lists_of, names_of}
use Rattle.c_macros.proofs.macros.argument_for.Given as goal

abbrev pub invariant-names : goal.invariant-names
invariant-names l =
    argument_for (names_of l.names) (lists_of l.lists) l.fn.name ≡
    argument_for (names_of l.fn.parameters) (lists_of l.fn.arguments) l.fn.name

abbrev pub decreases-names : goal.decreases-names
decreases-names l = length l.names
