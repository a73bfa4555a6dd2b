use Rattle.std.proofs.Common.{◌≡◌, length}
use Rattle.c_grammar.specs.Macros.{is_macro}
use Rattle.c_macros.specs.Macros.{all_macros, names_of}
use Rattle.c_macros.proofs.macros.is_macro.Given as goal

abbrev pub invariant-names : goal.invariant-names
invariant-names l = is_macro (all_macros l.fn.macros) (names_of l.rest) ≡ is_macro (all_macros l.fn.macros) (names_of l.fn.names)

abbrev pub decreases-names : goal.decreases-names
decreases-names l = length l.rest
