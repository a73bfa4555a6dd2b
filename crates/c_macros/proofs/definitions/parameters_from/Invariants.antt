use Rattle.std.proofs.Common.{◌≡◌, [], length, map}
use Rattle.c_grammar.specs.Expressions.{as_items}
use Rattle.c_grammar.specs.Macros.{parameters_from}
use Rattle.directives.specs.Seen.{seen_placed}
use Rattle.c_macros.specs.Macros.{names_of}
use Rattle.c_macros.proofs.definitions.parameters_from.Given as goal

abbrev pub invariant-names : goal.invariant-names
invariant-names l =
    parameters_from (names_of l.parameters.items) (as_items 0 (map seen_placed l.rest)) ≡
    parameters_from [] (as_items 0 (map seen_placed l.fn.lexemes))

abbrev pub decreases-names : goal.decreases-names
decreases-names l = length l.rest
